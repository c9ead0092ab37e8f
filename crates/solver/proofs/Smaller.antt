-- A part of a term is smaller than the term.
use Rattle.std.proofs.Common.{◌≡◌, ℕ, zero, suc, ◌+◌, ◌*◌, ◌<◌, ◌≤◌, Bool, true, false, cond, List, [], ◌∷◌, map, length, get_or, Ok, Result, sym, refl, ap, ◌∙◌, arith}
use Rattle.std.specs.Prelude.{ok_or}
use Rattle.std.specs.List.{slice_get}
use Rattle.std.proofs.lemmas.List.{length-map}
use Rattle.std.proofs.lemmas.Option.{slice_get-get_or}
use Rattle.std.proofs.Math.Option.{Option, none, some}
use Rattle.theory.specs.declared.words.Head.TheVariants.{List as AList}
use Rattle.theory.specs.declared.words.ListSort.TheVariants.{Arguments}
use Rattle.theory.specs.declared.words.Node.{Node}
use Rattle.theory.specs.declared.words.StoreFault.{StoreFault}
use Rattle.theory.specs.declared.words.StoreFault.TheVariants.{NoSuch, BadPart}
use Rattle.theory.specs.Outcomes.{◌>>=◌, at, given, test}
use Rattle.theory.specs.Trees.{Tree, leaf, node, nil, cons, tree?, items, applies, parts, seen}
use Rattle.theory.specs.Limits.{longest}
use Rattle.theory.specs.Store.{Contents, found, handle, get, part, parts_at}
use Rattle.theory.proofs.Steps.{bind_ok, given_ok, ok_one}
use Rattle.terms.specs.Whole.{IsWhole}
use Rattle.terms.proofs.Places.{at_some}
use Rattle.terms.proofs.Reading.{part_of_parts}
use Rattle.solver.specs.Sizes.{size, size_at}

item_smaller : (ts : Tree) (k : ℕ) (u : Tree) → at (items ts) k ≡ some u → size u < size ts
item_smaller (leaf x) k u e = cc
item_smaller (node h ts) k u e = cc
item_smaller nil k u e = cc
item_smaller (cons t ts) zero u e = let own : t ≡ u = cc in omega (arith, ap size own)
item_smaller (cons t ts) (suc k) u e = omega (arith, item_smaller ts k u e)

part_in : (t : Tree) (k : ℕ) (u : Tree) → at (parts t) k ≡ some u → size u < size t
part_in (leaf x) k u e = cc
part_in (node h ts) k u e = by (applies h) k e
  where
    by : (b : Bool) (k : ℕ) → at (cond b (node (AList Arguments) ts ∷ []) (items ts)) k ≡ some u → size u < 2 * size ts + cond b 2 1
    by true zero e = let own : node (AList Arguments) ts ≡ u = cc in omega (arith, ap size own)
    by true (suc k) e = cc
    by false k e = omega (arith, item_smaller ts k u e)
part_in nil k u e = cc
part_in (cons t ts) k u e = cc

-- the tree at the handle of a tree is that tree, or none
at_handle : (m : List Tree) (u : Tree) → size_at m (handle m u) ≤ size u
at_handle [] u = omega arith
at_handle (t ∷ m) u = by (tree? t u) (at_handle m u)
  where
    by : (d : Dec (t ≡ u)) → size_at m (handle m u) ≤ size u → size_at (t ∷ m) (cond (test d) 0 (suc (handle m u))) ≤ size u
    by (yes e) le = omega (arith, ap size e)
    by (no n) le = le

found_at : (m : List Tree) (n : ℕ) (t : Tree) → at m n ≡ some t → get_or m n nil ≡ t
found_at [] n t e = cc
found_at (u ∷ m) zero t e = cc
found_at (u ∷ m) (suc n) t e = found_at m n t e

pub part_smaller : (m : List Tree) (n k p : ℕ) → Ok p ≡ part m n k → size_at m p < size_at m n
unfolding part
part_smaller m n k p e = by (at m n) refl e
  where
    read : Tree → Result ℕ StoreFault
    read t = given (at (parts t) k) (BadPart k) >>= λ u. Ok (handle m u)

    inner : (t : Tree) (o : Option Tree) → at m n ≡ some t → at (parts t) k ≡ o → Ok p ≡ (given o (BadPart k) >>= λ u. Ok (handle m u)) → size_at m p < size_at m n
    inner t none a b e = cc
    inner t (some u) a b e =
        let own : p ≡ handle m u = cc in
        omega (arith, ap (size_at m) own, at_handle m u, part_in t k u b, ap size (found_at m n t a))

    by : (o : Option Tree) → at m n ≡ o → Ok p ≡ (given o (NoSuch n) >>= λ t. given (at (parts t) k) (BadPart k) >>= λ u. Ok (handle m u)) → size_at m p < size_at m n
    by none a e = cc
    by (some t) a e = inner t (at (parts t) k) a refl e

-- what is read is held
pub read_held : (m : List Tree) (n : ℕ) (v : Node) → Ok v ≡ get m n → n < length m
unfolding get
read_held m n v e = by m n (NoSuch n) e
  where
    by : (m : List Tree) (n : ℕ) (f : StoreFault) → Ok v ≡ (given (at m n) f >>= λ t. Ok (seen t)) → n < length m
    by [] n f e = cc
    by (t ∷ m) zero f e = omega arith
    by (t ∷ m) (suc n) f e = omega (arith, by m n f e)

-- the parts of a term as a list: each is smaller, and there are not too many
module _ (c : Contents) (n : ℕ) (ps : List ℕ) (e : Ok ps ≡ parts_at c.trees n) where
  pub element_smaller : (k : ℕ) → k < length ps → size_at c.trees (get_or ps k 0) < size_at c.trees n
  element_smaller k l =
      let there : ok_or (slice_get ps k) (BadPart k) ≡ Ok (get_or ps k 0) = rw (slice_get-get_or ps k 0 l) refl in
      part_smaller c.trees n k (get_or ps k 0) (sym there ∙ part_of_parts c.trees n k ps e)

  pub few_elements : IsWhole c → length ps ≤ longest
  unfolding parts_at
  few_elements w =
      let whole = bind_ok (found c.trees n) (λ t. Ok (map (handle c.trees) (parts t))) ps (sym e) in
      let held = at_some c.trees n whole.0 (given_ok (at c.trees n) (NoSuch n) whole.0 whole.1) in
      let own : ps ≡ map (handle c.trees) (parts whole.0) = sym (ok_one (map (handle c.trees) (parts whole.0)) ps whole.2) in
      omega (arith, ap length own, length-map (parts whole.0) (handle c.trees), ap (λ t. length (parts t)) held.1, (w.low n held.0).1)
