-- A part stands in its store before the whole.
use Rattle.std.proofs.Common.{◌≡◌, ℕ, ◌<◌, List, length, get_or, Ok, sym, refl, ap, ◌∙◌, arith}
use mathlib.Core.Option.{some}
use Rattle.std.proofs.lemmas.List.{length-map, get_or-map}
use Rattle.std.specs.List.{slice_get}
use Rattle.std.proofs.lemmas.Option.{slice_get-get_or}
use Rattle.std.specs.Prelude.{ok_or}
use Rattle.theory.specs.declared.words.StoreFault.TheVariants.{NoSuch, BadPart}
use Rattle.theory.specs.Outcomes.{at, given, ◌>>=◌}
use Rattle.theory.specs.Trees.{Tree, leaf, node, nil, cons, parts, seen}
use Rattle.theory.specs.Store.{Contents, found, handle, part, parts_at}
use Rattle.theory.proofs.Steps.{bind_ok, given_ok, none_some, ok_one}
use Rattle.terms.specs.Whole.{IsWhole}
use Rattle.terms.proofs.Places.{at_some, below_at, trees-at}
use Rattle.terms.proofs.Reading.{part_of_parts}
use Rattle.terms.proofs.Formed.{OverParts, over_parts}

module _ (c : Contents) (w : IsWhole c) (n k : ℕ) where
  handle_before : (t : Tree) → n < length c.trees → get_or c.trees n nil ≡ t → (u : Tree) → at (parts t) k ≡ some u → handle c.trees u < n
  handle_before (leaf x) l is u e = none_some u e
  handle_before nil l is u e = none_some u e
  handle_before (cons t v) l is u e = none_some u e
  handle_before (node h ts) l is u e =
      let m = c.trees in
      let o : OverParts c.trees n h = over_parts c w n l h (length (parts (node h ts))) (ap seen is) in
      let here = at_some (trees-at m o.handles) k u (ap (λ us. at us k) (sym o.parts_are ∙ ap parts is) ∙ e) in
      let inside : k < length o.handles = omega (arith, here.0, length-map o.handles (λ i. get_or m i nil)) in
      let low : get_or o.handles k 0 < n = below_at n o.handles k o.before inside in
      let own : handle m u ≡ get_or o.handles k 0 =
      ap (handle m) (sym here.1 ∙ get_or-map (λ i. get_or m i nil) o.handles k 0 nil inside) ∙ w.sole (get_or o.handles k 0) (omega arith)
      in
      omega (arith, own, low)

  pub part_before : (p : ℕ) → Ok p ≡ part c.trees n k → p < n
  unfolding part
  part_before p e =
      let m = c.trees in
      let whole = bind_ok (found m n) (λ t. given (at (parts t) k) (BadPart k) >>= λ u. Ok (handle m u)) p (sym e) in
      let t = whole.0 in
      let held = at_some m n t (given_ok (at m n) (NoSuch n) t whole.1) in
      let one = bind_ok (given (at (parts t) k) (BadPart k)) (λ u. Ok (handle m u)) p whole.2 in
      let low = handle_before t held.0 held.1 one.0 (given_ok (at (parts t) k) (BadPart k) one.0 one.1) in
      omega (arith, low, ok_one (handle m one.0) p one.2)

  pub element_before : (ps : List ℕ) → Ok ps ≡ parts_at c.trees n → k < length ps → get_or ps k 0 < n
  element_before ps e l =
      let there : ok_or (slice_get ps k) (BadPart k) ≡ Ok (get_or ps k 0) = rw (slice_get-get_or ps k 0 l) refl in
      part_before (get_or ps k 0) (sym there ∙ part_of_parts c.trees n k ps e)
