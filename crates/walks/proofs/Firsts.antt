-- The first leaf of a term is the first of its parts.
use Rattle.std.proofs.Common.{◌≡◌, ℕ, Bool, true, false, List, [], ◌∷◌, get_or, Some, None, Option, sym, refl, ap, ◌∙◌, ⊎_elim}
use Rattle.std.proofs.lemmas.Bool.{cases_Bool}
use Rattle.theory.specs.declared.words.ListSort.TheVariants.{Arguments}
use Rattle.theory.specs.declared.words.Leaf.{Leaf}
use Rattle.theory.specs.declared.words.Head.{Head}
use Rattle.theory.specs.declared.words.Head.TheVariants.{List as AList}
use Rattle.theory.specs.Trees.{Tree, node, nil, row, applies, assembled, parts}
use Rattle.terms.proofs.Places.{trees-at}
use Rattle.terms.proofs.Fits.{one_list}
use Rattle.terms.proofs.Formed.{OverParts, flat}
use Rattle.walks.specs.Flagged.{or_else, first_leaf}

abbrev pub first_among : (Leaf → Bool) → List Tree → Option Leaf
first_among f [] = None
first_among f (t ∷ ts) = or_else (first_leaf f t) (first_among f ts)

pub or_none : {A : Type 0} (o : Option A) → or_else o None ≡ o
or_none None = refl
or_none (Some a) = refl

first_row : (f : Leaf → Bool) (ts : List Tree) → first_leaf f (row ts) ≡ first_among f ts
unfolding first_leaf
first_row f [] = refl
first_row f (t ∷ ts) = ap (or_else (first_leaf f t)) (first_row f ts)

first_node : (f : Leaf → Bool) (h : Head) (ts : Tree) → first_leaf f (node h ts) ≡ first_leaf f ts
unfolding first_leaf
first_node f h ts = refl

module _ (f : Leaf → Bool) (m : List Tree) (n : ℕ) (h : Head) (o : OverParts m n h) where
  under_list : applies h ≡ true → first_leaf f (get_or m n nil) ≡ first_among f (trees-at m o.handles)
  unfolding assembled
  under_list a =
      let p = one_list m h o.handles a o.fit in
      let us = p.0 in
      let is : trees-at m o.handles ≡ node (AList Arguments) us ∷ [] = p.1 in
      let whole : get_or m n nil ≡ node h us = o.tree ∙ ap (assembled h) is ∙ rw a refl in
      ap (first_leaf f) whole ∙ first_node f h us ∙ sym (first_node f (AList Arguments) us) ∙ sym (or_none (first_leaf f (node (AList Arguments) us))) ∙ ap (first_among f) (sym is)

  under-parts : applies h ≡ false → first_leaf f (get_or m n nil) ≡ first_among f (trees-at m o.handles)
  under-parts a =
      ap (first_leaf f) (o.tree ∙ flat h (trees-at m o.handles) a) ∙ first_node f h (row (trees-at m o.handles)) ∙ first_row f (trees-at m o.handles)

  pub first_of-parts : first_leaf f (get_or m n nil) ≡ first_among f (parts (get_or m n nil))
  first_of-parts = ⊎_elim under_list under-parts (cases_Bool (applies h)) ∙ ap (first_among f) (sym o.parts_are)
