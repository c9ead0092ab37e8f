-- The parts of a term stand lower than it.
use Rattle.std.proofs.Common.{◌≡◌, ℕ, zero, suc, ◌+◌, ◌*◌, ◌<◌, ◌≤◌, true, false, ◌⊎◌, List, [], ◌∷◌, length, get_or, sym, refl, ap, ◌∙◌, subst, inl, inr, ⊎_elim, arith}
use Rattle.std.proofs.lemmas.Bool.{both_ways, cases_Bool, eqb-true, ltb-true}
use Rattle.std.proofs.lemmas.List.{length-map, get_or-map}
use Rattle.theory.specs.declared.words.ListSort.{ListSort}
use Rattle.theory.specs.declared.words.ListSort.TheVariants.{Arguments, Environment, OpaquePairs, Goals, Constraints, Kinds}
use Rattle.theory.specs.declared.words.Head.{Head}
use Rattle.theory.specs.declared.words.Head.TheVariants.{Constructor, Alias, Function, Unevaluated, Value, Predicate, OpaquePair, Goal, Outlives, Equal, List as AList}
use Rattle.theory.specs.declared.words.Node.{Node}
use Rattle.theory.specs.Trees.{Tree, leaf, node, nil, cons, row, applies, assembled, seen, node_sort, head_sort, sort_code, takes, weight, height}
use Rattle.terms.proofs.Places.{trees-at}
use Rattle.terms.proofs.Fits.{one_list, accepted-takes}
use Rattle.terms.proofs.Formed.{OverParts, flat}
use Rattle.walks.specs.Flagged.{rank}

height_in : (ts : List Tree) (k : ℕ) → k < length ts → height (get_or ts k nil) ≤ height (row ts)
height_in [] k l = absurd (omega arith)
height_in (t ∷ ts) zero l = omega arith
height_in (t ∷ ts) (suc k) l = omega (arith, height_in ts k (omega arith))

applies-weight : (h : Head) → applies h ≡ true → weight h ≡ 1
applies-weight (Constructor n) e = refl
applies-weight (Alias n) e = refl
applies-weight (Function c) e = refl
applies-weight (Unevaluated n) e = refl
applies-weight (Value v) e = refl
applies-weight (Predicate n c) e = refl
applies-weight OpaquePair e = refl
applies-weight Goal e = refl
applies-weight (Outlives v) e = refl
applies-weight (Equal v) e = refl
applies-weight (AList s) e = absurd (both_ways false refl e)

-- what is no list stands one above its parts
sorted-weight : (h : Head) → sort_code (head_sort h) < 8 → weight h ≡ 1
sorted-weight (Constructor n) l = refl
sorted-weight (Alias n) l = refl
sorted-weight (Function c) l = refl
sorted-weight (Unevaluated n) l = refl
sorted-weight (Value v) l = refl
sorted-weight (Predicate n c) l = refl
sorted-weight OpaquePair l = refl
sorted-weight Goal l = refl
sorted-weight (Outlives v) l = refl
sorted-weight (Equal v) l = refl
sorted-weight (AList Arguments) l = absurd (omega arith)
sorted-weight (AList Environment) l = absurd (omega arith)
sorted-weight (AList OpaquePairs) l = absurd (omega arith)
sorted-weight (AList Goals) l = absurd (omega arith)
sorted-weight (AList Constraints) l = absurd (omega arith)
sorted-weight (AList Kinds) l = absurd (omega arith)

-- the elements of a list are no lists
element-sort : (s : ListSort) (k : ℕ) (v : Node) → takes (AList s) k v ≡ true → sort_code (node_sort v) < 8
element-sort Arguments k v e = omega (arith, ltb-true (sort_code (node_sort v)) 3 e)
element-sort Environment k v e = omega (arith, eqb-true 3 (sort_code (node_sort v)) e)
element-sort OpaquePairs k v e = omega (arith, eqb-true 4 (sort_code (node_sort v)) e)
element-sort Goals k v e = omega (arith, eqb-true 5 (sort_code (node_sort v)) e)
element-sort Constraints k v e = omega (arith, eqb-true 6 (sort_code (node_sort v)) e)
element-sort Kinds k v e = omega (arith, eqb-true 7 (sort_code (node_sort v)) e)

one_or_list : (h : Head) → (weight h ≡ 1) ⊎ ((weight h ≡ 0) × ((k : ℕ) (v : Node) → takes h k v ≡ true → sort_code (node_sort v) < 8))
one_or_list (Constructor n) = inl refl
one_or_list (Alias n) = inl refl
one_or_list (Function c) = inl refl
one_or_list (Unevaluated n) = inl refl
one_or_list (Value v) = inl refl
one_or_list (Predicate n c) = inl refl
one_or_list OpaquePair = inl refl
one_or_list Goal = inl refl
one_or_list (Outlives v) = inl refl
one_or_list (Equal v) = inl refl
one_or_list (AList s) = inr (refl, element-sort s)

rank-any : (t : Tree) → rank t ≤ 2 * height t + 1
rank-any (leaf x) = omega arith
rank-any (node h ts) = omega arith
rank-any nil = omega arith
rank-any (cons t u) = omega arith

rank-element : (t : Tree) → sort_code (node_sort (seen t)) < 8 → rank t ≤ 2 * height t
rank-element (leaf x) l = omega arith
rank-element (node h ts) l = omega (arith, sorted-weight h l)
rank-element nil l = omega arith
rank-element (cons t u) l = omega arith

module _ (m : List Tree) (n : ℕ) (h : Head) (o : OverParts m n h) (k : ℕ) (l : k < length o.handles) where
  abbrev part-tree : Tree
  part-tree = get_or m (get_or o.handles k 0) nil

  over_list : applies h ≡ true → rank part-tree < rank (get_or m n nil)
  unfolding assembled
  over_list a =
      let p = one_list m h o.handles a o.fit in
      let us = p.0 in
      let is : trees-at m o.handles ≡ node (AList Arguments) us ∷ [] = p.1 in
      let one : length o.handles ≡ 1 = sym (length-map o.handles (λ i. get_or m i nil)) ∙ ap length is in
      let first : k ≡ 0 = omega arith in
      let own : part-tree ≡ node (AList Arguments) us =
      sym (get_or-map (λ i. get_or m i nil) o.handles k 0 nil l) ∙ ap (λ ts. get_or ts k nil) is ∙ ap (λ j. get_or (node (AList Arguments) us ∷ []) j nil) first
      in
      let whole : get_or m n nil ≡ node h us = o.tree ∙ ap (assembled h) is ∙ rw a refl in
      omega (arith, ap rank own, ap rank whole, applies-weight h a)

  over_parts : applies h ≡ false → rank part-tree < rank (get_or m n nil)
  over_parts a =
      let us = trees-at m o.handles in
      let whole : get_or m n nil ≡ node h (row us) = o.tree ∙ flat h us a in
      let own : get_or us k nil ≡ part-tree = get_or-map (λ i. get_or m i nil) o.handles k 0 nil l in
      let low : height part-tree ≤ height (row us) =
      subst (λ t. height t ≤ height (row us)) own (height_in us k (omega (arith, length-map o.handles (λ i. get_or m i nil))))
      in
      ⊎_elim
      (λ (w : weight h ≡ 1). omega (arith, ap rank whole, rank-any part-tree))
      (λ (w : (weight h ≡ 0) × ((i : ℕ) (v : Node) → takes h i v ≡ true → sort_code (node_sort v) < 8)).
      omega (arith, ap rank whole, w.0, rank-element part-tree (w.1 (0 + k) (seen part-tree) (accepted-takes m h 0 o.handles k o.fit l))))
      (one_or_list h)

  pub rank_falls : rank (get_or m (get_or o.handles k 0) nil) < rank (get_or m n nil)
  rank_falls = ⊎_elim over_list over_parts (cases_Bool (applies h))
