-- One turn of the search for a leaf with a flag.
use Rattle.std.proofs.Common.{◌≡◌, ℕ, ◌+◌, ◌<◌, ◌≤◌, true, false, not, ◌==◌, List, ◌∷◌, length, get_or, drop, Some, None, Ok, Err, Option, Result, sym, ap, ◌∙◌, subst, ⊎_elim, arith}
use lib.Bits.{bit_and}
use Rattle.std.proofs.lemmas.List.{drop_more, drop_all}
use Rattle.std.proofs.lemmas.Bool.{both_ways, ne_eqb, cases_eq}
use Rattle.theory.specs.declared.words.Facts.{Facts}
use Rattle.theory.specs.declared.words.Head.{Head}
use Rattle.theory.specs.declared.words.Leaf.{Leaf}
use Rattle.theory.specs.declared.words.Node.TheVariants.{Leaf as ALeaf, Over}
use Rattle.theory.specs.declared.words.StoreFault.{StoreFault}
use Rattle.theory.specs.Outcomes.{◌>>=◌}
use Rattle.theory.specs.Trees.{Tree, leaf, nil, parts, flags}
use Rattle.theory.specs.Store.{Contents, found, get, parts_at, facts_at}
use Rattle.theory.proofs.Steps.{never_ok, ok_one}
use Rattle.terms.specs.Whole.{IsWhole}
use Rattle.terms.proofs.Formed.{OverParts, over_parts, seen-leaf}
use Rattle.walks.specs.Flagged.{or_else, flagged, if_so, first_leaf, first_flagged, rank}
use Rattle.walks.proofs.Flags.{none_first}
use Rattle.walks.proofs.Firsts.{first_among, first_of-parts}
use Rattle.walks.proofs.Ranks.{rank_falls}
use Rattle.walks.proofs.Entries.{found_in, get_here, facts_here, many_handles, handle_in, parts_are, part-tree}

module _ (m : List Tree) (n bits : ℕ) where
  pub refused_first : (f : StoreFault) → found m n ≡ Err f → Err f ≡ first_flagged m n bits
  unfolding first_flagged
  refused_first f e = sym (ap (λ (r : Result Tree StoreFault). r >>= λ t. Ok (first_leaf (flagged bits) t)) e)

  pub answered_first : n < length m → (o : Option Leaf) → o ≡ first_leaf (flagged bits) (get_or m n nil) → Ok o ≡ first_flagged m n bits
  unfolding first_flagged
  answered_first l o e = ap Ok e ∙ sym (ap (λ (r : Result Tree StoreFault). r >>= λ t. Ok (first_leaf (flagged bits) t)) (found_in m n l))

  pub none_here : (f : Facts) → Ok f ≡ facts_at m n → false ≡ not (bit_and f.flags.bits bits == 0) → Ok None ≡ first_flagged m n bits
  none_here f e no_flag =
      let h = facts_here m n f e in
      answered_first h.0 None (sym (none_first bits (get_or m n nil) (not_flagged (bit_and (flags (get_or m n nil)) bits) (no_flag ∙ ap (λ (x : Facts). not (bit_and x.flags.bits bits == 0)) h.1))))
    where
      not_flagged : (b : ℕ) → false ≡ not (b == 0) → b ≡ 0
      not_flagged b q = ⊎_elim (λ z. z) (λ ne. absurd (both_ways (not (b == 0)) (sym q) (ap not (ne_eqb b 0 ne)))) (cases_eq b 0)

-- a leaf that was not left out has one of the flags
module _ (c : Contents) (w : IsWhole c) (n bits : ℕ) where
  pub leaf_here : (f : Facts) (x : Leaf) → Ok f ≡ facts_at c.trees n → true ≡ not (bit_and f.flags.bits bits == 0) → Ok (ALeaf x) ≡ get c.trees n → Ok (Some x) ≡ first_flagged c.trees n bits
  unfolding first_leaf
  leaf_here f x e flag g =
      let h = facts_here c.trees n f e in
      let v = get_here c.trees n (ALeaf x) g in
      let is : get_or c.trees n nil ≡ leaf x = seen-leaf c w n h.0 x (sym v.1) in
      let some : flagged bits x ≡ true = sym (flag ∙ ap (λ (y : Facts). not (bit_and y.flags.bits bits == 0)) h.1 ∙ ap (λ t. not (bit_and (flags t) bits == 0)) is) in
      answered_first c.trees n bits h.0 (Some x) (sym (ap (first_leaf (flagged bits)) is ∙ ap (λ b. if_so b x) some))

module _ (c : Contents) (w : IsWhole c) (n bits : ℕ) (h : Head) (count : ℕ) (is : Ok (Over h count) ≡ get c.trees n) where
  abbrev m : List Tree
  m = c.trees

  abbrev t : Tree
  t = get_or c.trees n nil

  abbrev f : Leaf → mathlib.Core.Bool.Bool
  f = flagged bits

  in_store : n < length c.trees
  in_store = (get_here m n (Over h count) is).0

  over : OverParts c.trees n h
  over = over_parts c w n in_store h count (sym (get_here m n (Over h count) is).1)

  pub parts_never : (e : StoreFault) → Err e ≡ parts_at c.trees n → {A : Type 0} → A
  parts_never e q = never_ok e over.handles (q ∙ parts_are m n in_store h over w.sole)

  module _ (ns : List ℕ) (own : Ok ns ≡ parts_at c.trees n) where
    same : ns ≡ over.handles
    same = ok_one ns over.handles (own ∙ parts_are m n in_store h over w.sole)

    many : length ns ≡ length (parts (get_or c.trees n nil))
    many = ap length same ∙ many_handles m n in_store h over

    module _ (k : ℕ) (l : k < length ns) where
      abbrev p : ℕ
      p = get_or ns k 0

      inside : k < length over.handles
      inside = omega (arith, ap length same)

      at : p ≡ get_or over.handles k 0
      at = ap (λ xs. get_or xs k 0) same

      here : p < length c.trees
      here = subst (λ i. i < length c.trees) (sym at) (handle_in m n in_store h over k inside)

      pub part_lower : rank (get_or c.trees (get_or ns k 0) nil) < rank (get_or c.trees n nil)
      part_lower = subst (λ i. rank (get_or c.trees i nil) < rank t) (sym at) (rank_falls m n h over k inside)

      -- the parts from this place on
      from_here : drop k (parts (get_or c.trees n nil)) ≡ get_or c.trees p nil ∷ drop (k + 1) (parts (get_or c.trees n nil))
      from_here =
          drop_more (parts t) k nil (omega (arith, many))
          ∙ ap (λ u. u ∷ drop (k + 1) (parts t)) (part-tree m n in_store h over k inside ∙ ap (λ i. get_or c.trees i nil) (sym at))

      answer_of : (o : Option Leaf) → Ok o ≡ first_flagged c.trees p bits → o ≡ first_leaf (flagged bits) (get_or c.trees p nil)
      unfolding first_flagged
      answer_of o e = ok_one o (first_leaf f (get_or c.trees p nil)) (e ∙ ap (λ (r : Result Tree StoreFault). r >>= λ u. Ok (first_leaf f u)) (found_in m p here))

      pub answer_never : (e : StoreFault) → Err e ≡ first_flagged c.trees (get_or ns k 0) bits → {A : Type 0} → A
      unfolding first_flagged
      answer_never e q = never_ok e (first_leaf f (get_or c.trees p nil)) (q ∙ ap (λ (r : Result Tree StoreFault). r >>= λ u. Ok (first_leaf f u)) (found_in m p here))

      module _ (inv : first_among (flagged bits) (drop k (parts (get_or c.trees n nil))) ≡ first_among (flagged bits) (parts (get_or c.trees n nil))) where
        pub found_here : (x : Leaf) → Ok (Some x) ≡ first_flagged c.trees (get_or ns k 0) bits → Ok (Some x) ≡ first_flagged c.trees n bits
        found_here x e =
            answered_first m n bits in_store (Some x)
            (sym
            (first_of-parts f m n h over ∙ sym inv ∙ ap (first_among f) from_here
            ∙ ap (λ o. or_else o (first_among f (drop (k + 1) (parts t)))) (sym (answer_of (Some x) e))))

        pub go_on : Ok None ≡ first_flagged c.trees (get_or ns k 0) bits → first_among (flagged bits) (drop (k + 1) (parts (get_or c.trees n nil))) ≡ first_among (flagged bits) (parts (get_or c.trees n nil))
        go_on e =
            sym (ap (first_among f) from_here ∙ ap (λ o. or_else o (first_among f (drop (k + 1) (parts t)))) (sym (answer_of None e))) ∙ inv

    pub none_left : (k : ℕ) → length ns ≤ k → first_among (flagged bits) (drop k (parts (get_or c.trees n nil))) ≡ first_among (flagged bits) (parts (get_or c.trees n nil)) → Ok None ≡ first_flagged c.trees n bits
    none_left k l inv =
        answered_first m n bits in_store None
        (sym (first_of-parts f m n h over ∙ sym inv ∙ ap (first_among f) (drop_all k (parts t) (omega (arith, many)))))
