-- What stands true of every term that a store holds: its parts stand before it and fit its head, and every term inside it is
-- held.
use Rattle.std.proofs.Common.{◌≡◌, ℕ, ◌<◌, Bool, true, false, cond, List, [], ◌∷◌, length, get_or, take, drop, sym, refl, ap, ◌∙◌, subst, ⊎_elim, arith}
use Rattle.std.proofs.lemmas.List.{length-take-le, take-append-drop}
use Rattle.std.proofs.lemmas.Bool.{both_ways, cases_Bool}
use Rattle.theory.specs.declared.words.ListSort.TheVariants.{Arguments}
use Rattle.theory.specs.declared.words.Head.{Head}
use Rattle.theory.specs.declared.words.Head.TheVariants.{List as AList}
use Rattle.theory.specs.declared.words.Leaf.{Leaf}
use Rattle.theory.specs.declared.words.Node.{Node}
use Rattle.theory.specs.declared.words.Node.TheVariants.{Leaf as ALeaf, Over}
use Rattle.theory.specs.Trees.{Tree, leaf, node, nil, cons, items, row, applies, parts, applied, assembled, seen}
use Rattle.theory.specs.Forms.{is_entry}
use Rattle.theory.specs.Store.{Contents, checked}
use Rattle.theory.proofs.Holding.{Held, AllHeld}
use Rattle.theory.proofs.Again.{ListHeld}
use Rattle.theory.proofs.Unchanged.{Inside}
use Rattle.terms.specs.Whole.{IsWhole}
use Rattle.terms.specs.Memory.{Cell, formed, tree_of, accepted, fits}
use Rattle.terms.proofs.Places.{at_in, at_some, Below, below_more, trees-at}
use Rattle.terms.proofs.Fits.{one_list, items-row}
use Rattle.terms.specs.Interning.{Proper}
use Rattle.terms.proofs.Cells.{proper_below, proper_more, tree_more, parts_of, seen_of}

-- a head that stands over its parts themselves
pub flat : (h : Head) (ts : List Tree) → applies h ≡ false → assembled h ts ≡ node h (row ts)
unfolding assembled
flat h ts a = rw a refl

-- what is put together is a leaf or a node, and no row
is_formed : (v : Node) (ts : List Tree) → is_entry (formed v ts) ≡ true
unfolding assembled
is_formed (ALeaf x) ts = refl
is_formed (Over h k) ts = by (applies h) ts
  where
    by : (b : Bool) (ts : List Tree) → is_entry (cond b (applied h ts) (node h (row ts))) ≡ true
    by true [] = refl
    by true (t ∷ ts) = refl
    by false ts = refl

-- a head over parts, at a handle: the handles of the parts
pub record OverParts (m : List Tree) (n : ℕ) (h : Head) : Type 0 where
  pub handles : List ℕ
  pub before : Below n handles
  pub fit : accepted (checked m h 0 handles) ≡ true
  pub tree : get_or m n nil ≡ assembled h (trees-at m handles)
  pub parts_are : parts (get_or m n nil) ≡ trees-at m handles

module _ (c : Contents) (w : IsWhole c) (n : ℕ) (l : n < length c.trees) where
  abbrev m : List Tree
  m = c.trees

  abbrev own : Cell
  own = (w.made n l).own

  proper : Proper c.trees own
  proper = subst (λ x. Proper x own) (take-append-drop n m) (proper_more (take n m) (drop n m) own (w.made n l).proper)

  low : Below n own.handles
  low = subst (λ k. Below k own.handles) (length-take-le n m (omega arith)) (proper_below (take n m) own (w.made n l).proper)

  is_tree : get_or c.trees n nil ≡ tree_of c.trees own
  is_tree =
      (w.made n l).tree
      ∙ sym (tree_more (take n m) (drop n m) own (w.made n l).proper) ∙ ap (λ x. tree_of x own) (take-append-drop n m)

  form : own.form ≡ seen (get_or c.trees n nil)
  form = sym (ap seen is_tree ∙ seen_of m own proper)

  -- what an entry that is seen as a head over parts holds
  pub over_parts : (h : Head) (k : ℕ) → seen (get_or c.trees n nil) ≡ Over h k → OverParts c.trees n h
  over_parts h k e =
      let over : own.form ≡ Over h k = form ∙ e in
      record {
        handles = own.handles;
        before = low;
        fit = subst (λ v. fits c.trees v own.handles ≡ true) over proper.fit;
        tree = is_tree ∙ ap (λ v. formed v (trees-at c.trees own.handles)) over;
        parts_are = ap parts is_tree ∙ parts_of c.trees own proper;
      }

  pub seen-leaf : (x : Leaf) → seen (get_or c.trees n nil) ≡ ALeaf x → get_or c.trees n nil ≡ leaf x
  seen-leaf x e = is_tree ∙ ap (λ v. formed v (trees-at c.trees own.handles)) (form ∙ e)

held_place : (m : List Tree) (i : ℕ) → i < length m → Held m (get_or m i nil)
held_place m i l = (i, at_in m i l)

all_held : (m : List Tree) (ns : List ℕ) → Below (length m) ns → AllHeld m (trees-at m ns)
all_held m [] b = tt
all_held m (n ∷ ns) b = (held_place m n b.0, all_held m ns b.1)

-- a node that is held stands over a row, whose elements are held
record Rowed (m : List Tree) (h : Head) (ts : Tree) : Type 0 where
  is_row : ts ≡ row (items ts)
  elements-held : AllHeld m (items ts)
  list_held : ListHeld (applies h) m ts

under_one : (h k : Head) (ts us : Tree) → node h ts ≡ node k us → ts ≡ us
under_one h k ts us e = cc

module _ (c : Contents) (w : IsWhole c) where
  abbrev held_trees : List Tree
  held_trees = c.trees

  plain_row : (h : Head) (ts : Tree) (i : ℕ) → i < length c.trees → get_or c.trees i nil ≡ node h ts → applies h ≡ false → (ts ≡ row (items ts)) × AllHeld c.trees (items ts)
  plain_row h ts i l e a =
      let o = over_parts c w i l h (length (parts (node h ts))) (ap seen e) in
      let us = trees-at held_trees o.handles in
      let is : ts ≡ row us = under_one h h ts (row us) (sym e ∙ o.tree ∙ flat h us a) in
      let items-are : items ts ≡ us = ap items is ∙ items-row us in
      (is ∙ ap row (sym items-are), subst (λ xs. AllHeld held_trees xs) (sym items-are) (all_held held_trees o.handles (below_more i (length held_trees) o.handles (omega arith) o.before)))

  rowed : (h : Head) (ts : Tree) (i : ℕ) → i < length c.trees → get_or c.trees i nil ≡ node h ts → Rowed c.trees h ts
  rowed h ts i l e =
      ⊎_elim
      (λ (a : applies h ≡ true).
      let o = over_parts c w i l h (length (parts (node h ts))) (ap seen e) in
      let p = one_list held_trees h o.handles a o.fit in
      let us = p.0 in
      let all : parts (node h ts) ≡ node (AList Arguments) us ∷ [] = ap parts (sym e) ∙ o.parts_are ∙ p.1 in
      let own_list : parts (node h ts) ≡ node (AList Arguments) ts ∷ [] = rw a refl in
      let same : ts ≡ us = let q : node (AList Arguments) ts ∷ [] ≡ node (AList Arguments) us ∷ [] = sym own_list ∙ all in cc in
      let held : Held held_trees (node (AList Arguments) ts) =
      (subst (λ xs. AllHeld held_trees xs) (sym o.parts_are ∙ ap parts e ∙ own_list) (all_held held_trees o.handles (below_more i (length held_trees) o.handles (omega arith) o.before))).0
      in
      let b = at_some held_trees held.0 (node (AList Arguments) ts) held.1 in
      let r = plain_row (AList Arguments) ts held.0 b.0 b.1 refl in
      record { is_row = r.0; elements-held = r.1; list_held = subst (λ x. ListHeld x held_trees ts) (sym a) held })
      (λ (a : applies h ≡ false).
      let r = plain_row h ts i l e a in
      record { is_row = r.0; elements-held = r.1; list_held = subst (λ x. ListHeld x held_trees ts) (sym a) tt })
      (cases_Bool (applies h))

  -- of a tree, where it is held; of a row, where its elements are
  inside_both : (t : Tree) → (Held c.trees t → Inside c.trees t) × (t ≡ row (items t) → AllHeld c.trees (items t) → Inside c.trees t)
  inside_both (leaf x) = (λ _. tt, λ _ _. tt)
  inside_both (node h ts) = (
    λ held.
        let b = at_some held_trees held.0 (node h ts) held.1 in
        let r = rowed h ts held.0 b.0 b.1 in
        (held, r.list_held, (inside_both ts).1 r.is_row r.elements-held),
    λ e _. let z : ◌≡◌ {A = ℕ} 0 1 = cc in absurd (omega arith),
  )
  inside_both nil = (λ _. tt, λ _ _. tt)
  inside_both (cons t u) = (
    λ held.
        let b = at_some held_trees held.0 (cons t u) held.1 in
        absurd (no_cons held.0 b.0 b.1),
    λ e all.
        let rest : u ≡ row (items u) = cc in
        ((inside_both t).0 all.0, (inside_both u).1 rest all.1),
  )
    where
      no_cons : (i : ℕ) → i < length c.trees → get_or c.trees i nil ≡ cons t u → ⊥
      no_cons i l e = both_ways (is_entry (get_or c.trees i nil)) (ap is_entry e) (ap is_entry (is_tree c w i l) ∙ is_formed (own c w i l).form (trees-at c.trees (own c w i l).handles))

  pub inside_held : (i : ℕ) → i < length c.trees → Inside c.trees (get_or c.trees i nil)
  inside_held i l = (inside_both (get_or c.trees i nil)).0 (held_place c.trees i l)
