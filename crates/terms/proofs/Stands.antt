-- All that stands true of a store's memory at once; that it rests on the part in use alone; and that it stands after a push.
use Rattle.std.proofs.Common.{◌≡◌, ℕ, ◌+◌, ◌%◌, ◌<◌, ◌≤◌, true, List, [], ◌∷◌, ◌++◌, length, get_or, take, set, sym, refl, ap, ◌∙◌, subst, ⊎_elim, arith}
use Rattle.std.proofs.lemmas.Bool.{cases_lt, cases_eq}
use Rattle.std.proofs.lemmas.List.{length-append, length_push, length-map, get_or_append_left, get_or_push, take-append-le, take_all, drop_at, map_push}
use Rattle.theory.specs.declared.words.Facts.{Facts}
use Rattle.theory.specs.Trees.{Tree, nil, parts, height, flags, outer, facts}
use Rattle.theory.specs.Store.{handle, OneHandle, used}
use Rattle.maps.proofs.Links.{chained_push}
use Rattle.terms.specs.declared.memory.entry.Entry.{Entry}
use Rattle.terms.specs.Hash.{hashed}
use Rattle.terms.specs.Memory.{Cell, cell, cell_of, vacant, IsAt, tree_of, grown, held, Within, fits, handles_at, Kept, Placed, Fitted, Known, Deep, Low}
use Rattle.theory.specs.Trees.{part_count as count}
use Rattle.terms.specs.Means.{Sound}
use Rattle.terms.proofs.Places.{handle-hit, handle_more, handle_new}
use Rattle.terms.specs.Interning.{Proper}
use Rattle.terms.proofs.Cells.{cells, cell_more, cells_more, grown-push, length-held, own_proper, own_tree, same_cell, parts_of}

-- it rests on the part in use alone
pub sound_at : (pool pool' : List ℕ) (es es' : List Entry) (hd hd' : List ℕ) → pool ≡ pool' → es ≡ es' → hd ≡ hd' → Sound pool es hd → Sound pool' es' hd'
sound_at pool pool' es es' hd hd' p e h s =
    subst (λ x. Sound pool' es' x) h (subst (λ x. Sound pool' x hd) e (subst (λ x. Sound x es hd) p s))

pub used-push : (m : List Tree) (t : Tree) → used (m ++ t ∷ []) ≡ used m + length (parts t)
used-push [] t = omega arith
used-push (u ∷ m) t = omega (arith, used-push m t)

pub parts_many : (m : List Tree) (c : Cell) → Proper m c → length (parts (tree_of m c)) ≡ length c.handles
parts_many m c p = ap length (parts_of m c p) ∙ length-map c.handles (λ k. get_or m k nil)

-- a tree whose cell stands nowhere is not held
pub not_held : (pool : List ℕ) (es : List Entry) (hd : List ℕ) (s : Sound pool es hd) (c : Cell) → Proper (held pool es) c → ((k : ℕ) → k < length es → IsAt pool es c k → ⊥) → length (held pool es) ≤ handle (held pool es) (tree_of (held pool es) c)
not_held pool es hd s c proper fresh =
    let m = held pool es in
    let t = tree_of m c in
    let k = handle m t in
    ⊎_elim
    (λ (l : k < length m).
    let i : k < length es = omega (arith, length-held pool es) in
    let same = sym (own_tree pool es s.kept s.fitted k i) ∙ handle-hit m t l in
    absurd (fresh k i (same_cell m (cell_of pool (get_or es k vacant)) c s.sole (own_proper pool es s.kept s.fitted k i) proper same)))
    (λ (l : length m ≤ k). l)
    (cases_lt k (length m))

-- One more entry

module _ (pool : List ℕ) (es : List Entry) (hd : List ℕ) (s : Sound pool es hd) (e : Entry) (ns : List ℕ)
    (first : e.first ≡ length pool) (many : count e.node ≡ length ns) (hash : e.hash ≡ hashed e.node ns)
    (fit : fits (held pool es) e.node ns ≡ true) where
  own_cell : cell_of (pool ++ ns) e ≡ cell e.node ns
  own_cell =
      ap (λ xs. cell e.node (take (count e.node) xs)) (drop_at pool ns e.first (sym first))
      ∙ ap (cell e.node) (take_all (count e.node) ns (omega arith))

  proper : Proper (held pool es) (cell e.node ns)
  proper = record { fit = fit; all = many }

  abbrev new_tree : Tree
  new_tree = tree_of (held pool es) (cell e.node ns)

  -- the new tree stands at the end
  pub held-push : held (pool ++ ns) (es ++ e ∷ []) ≡ held pool es ++ tree_of (held pool es) (cell e.node ns) ∷ []
  held-push =
      ap (grown [])
      (map_push (cell_of (pool ++ ns)) es e
      ∙ ap (λ cs. cs ++ cell_of (pool ++ ns) e ∷ []) (cells_more pool ns es (λ i l. (s.kept i l).0))
      ∙ ap (λ c. cells pool es ++ c ∷ []) own_cell)
      ∙ grown-push [] (cells pool es) (cell e.node ns)

  old_entry : (i : ℕ) → i < length es → get_or (es ++ e ∷ []) i vacant ≡ get_or es i vacant
  old_entry i l = get_or_append_left es (e ∷ []) vacant i l

  new_entry : get_or (es ++ e ∷ []) (length es) vacant ≡ e
  new_entry = get_or_push es e vacant (length es) refl

  old_cell : (i : ℕ) → i < length es → cell_of (pool ++ ns) (get_or (es ++ e ∷ []) i vacant) ≡ cell_of pool (get_or es i vacant)
  old_cell i l = ap (cell_of (pool ++ ns)) (old_entry i l) ∙ cell_more pool ns (get_or es i vacant) (s.kept i l).0

  -- what stands of each old entry and of the new one stands of all
  each : (P : ℕ → Type 0) → ((i : ℕ) → i < length es → P i) → P (length es) → (i : ℕ) → i < length (es ++ e ∷ []) → P i
  each P olds last i l =
      ⊎_elim (λ (z : i ≡ length es). subst P (sym z) last) (λ (ne : i ≡ length es → ⊥). olds i (omega (arith, length_push es e))) (cases_eq i (length es))

  kept' : Kept (pool ++ ns) (es ++ e ∷ [])
  kept' =
      each (λ i. Within (pool ++ ns) (get_or (es ++ e ∷ []) i vacant) × ((get_or (es ++ e ∷ []) i vacant).hash ≡ hashed (get_or (es ++ e ∷ []) i vacant).node (handles_at (pool ++ ns) (es ++ e ∷ []) i)))
      (λ i l. (
        subst (λ x. Within (pool ++ ns) x) (sym (old_entry i l)) (omega (arith, (s.kept i l).0, length-append pool ns)),
        ap (λ (x : Entry). x.hash) (old_entry i l) ∙ (s.kept i l).1
            ∙ ap (λ (c : Cell). hashed c.form c.handles) (sym (old_cell i l)),
      )) (
        subst (λ x. Within (pool ++ ns) x) (sym new_entry) (omega (arith, first, many, length-append pool ns)),
        ap (λ (x : Entry). x.hash) new_entry ∙ hash ∙ ap (λ (c : Cell). hashed c.form c.handles) (sym (ap (cell_of (pool ++ ns)) new_entry ∙ own_cell)),
      )

  old_tree : (i : ℕ) → i < length es → get_or (held pool es ++ new_tree ∷ []) i nil ≡ get_or (held pool es) i nil
  old_tree i l = get_or_append_left (held pool es) (new_tree ∷ []) nil i (omega (arith, length-held pool es))

  last_tree : get_or (held pool es ++ new_tree ∷ []) (length es) nil ≡ new_tree
  last_tree = get_or_push (held pool es) new_tree nil (length es) (length-held pool es)

  old_trees : (i : ℕ) → i ≤ length es → take i (held pool es ++ new_tree ∷ []) ≡ take i (held pool es)
  old_trees i l = take-append-le i (held pool es) (new_tree ∷ []) (omega (arith, length-held pool es))

  placed' : Placed (pool ++ ns) (es ++ e ∷ [])
  placed' =
      subst (λ m. (i : ℕ) → i < length (es ++ e ∷ []) → (get_or (es ++ e ∷ []) i vacant).first ≡ used (take i m)) (sym held-push)
      (each (λ i. (get_or (es ++ e ∷ []) i vacant).first ≡ used (take i (held pool es ++ new_tree ∷ [])))
      (λ i l. ap (λ (x : Entry). x.first) (old_entry i l) ∙ s.placed i l ∙ ap used (sym (old_trees i (omega arith))))
      (ap (λ (x : Entry). x.first) new_entry ∙ first ∙ s.counted
      ∙ ap used (sym (old_trees (length es) (omega arith) ∙ take_all (length es) (held pool es) (omega (arith, length-held pool es))))))

  fitted' : Fitted (pool ++ ns) (es ++ e ∷ [])
  fitted' =
      subst (λ m. (i : ℕ) → i < length (es ++ e ∷ []) → fits (take i m) (get_or (es ++ e ∷ []) i vacant).node (handles_at (pool ++ ns) (es ++ e ∷ []) i) ≡ true) (sym held-push)
      (each (λ i. fits (take i (held pool es ++ new_tree ∷ [])) (get_or (es ++ e ∷ []) i vacant).node (handles_at (pool ++ ns) (es ++ e ∷ []) i) ≡ true)
      (λ i l.
      ap (λ m. fits m (get_or (es ++ e ∷ []) i vacant).node (handles_at (pool ++ ns) (es ++ e ∷ []) i)) (old_trees i (omega arith))
      ∙ ap (λ (c : Cell). fits (take i (held pool es)) c.form c.handles) (old_cell i l) ∙ s.fitted i l)
      (ap (λ m. fits m (get_or (es ++ e ∷ []) (length es) vacant).node (handles_at (pool ++ ns) (es ++ e ∷ []) (length es)))
      (old_trees (length es) (omega arith) ∙ take_all (length es) (held pool es) (omega (arith, length-held pool es)))
      ∙ ap (λ (c : Cell). fits (held pool es) c.form c.handles) (ap (cell_of (pool ++ ns)) new_entry ∙ own_cell) ∙ fit))

  module _ (is : e.facts ≡ facts (tree_of (held pool es) (cell e.node ns))) (high : e.facts.height ≤ 64) (few : count e.node ≤ 256)
      (fresh : (k : ℕ) → k < length es → IsAt pool es (cell e.node ns) k → ⊥) where
    known' : Known (pool ++ ns) (es ++ e ∷ [])
    known' =
        subst (λ m. (i : ℕ) → i < length (es ++ e ∷ []) → ((get_or (es ++ e ∷ []) i vacant).facts.height ≡ height (get_or m i nil)) × ((get_or (es ++ e ∷ []) i vacant).facts.flags.bits ≡ flags (get_or m i nil))) (sym held-push)
        (each (λ i. ((get_or (es ++ e ∷ []) i vacant).facts.height ≡ height (get_or (held pool es ++ new_tree ∷ []) i nil)) × ((get_or (es ++ e ∷ []) i vacant).facts.flags.bits ≡ flags (get_or (held pool es ++ new_tree ∷ []) i nil)))
        (λ i l. (
          ap (λ (x : Entry). x.facts.height) (old_entry i l) ∙ (s.known i l).0 ∙ ap height (sym (old_tree i l)),
          ap (λ (x : Entry). x.facts.flags.bits) (old_entry i l) ∙ (s.known i l).1 ∙ ap flags (sym (old_tree i l)),
        )) (
          ap (λ (x : Entry). x.facts.height) new_entry ∙ ap (λ (f : Facts). f.height) is ∙ ap height (sym last_tree),
          ap (λ (x : Entry). x.facts.flags.bits) new_entry ∙ ap (λ (f : Facts). f.flags.bits) is ∙ ap flags (sym last_tree),
        ))

    deep' : Deep (pool ++ ns) (es ++ e ∷ [])
    deep' =
        subst (λ m. (i : ℕ) → i < length (es ++ e ∷ []) → (get_or (es ++ e ∷ []) i vacant).facts.outer ≡ outer (get_or m i nil)) (sym held-push)
        (each (λ i. (get_or (es ++ e ∷ []) i vacant).facts.outer ≡ outer (get_or (held pool es ++ new_tree ∷ []) i nil))
        (λ i l. ap (λ (x : Entry). x.facts.outer) (old_entry i l) ∙ s.deep i l ∙ ap outer (sym (old_tree i l)))
        (ap (λ (x : Entry). x.facts.outer) new_entry ∙ ap (λ (f : Facts). f.outer) is ∙ ap outer (sym last_tree)))

    low' : Low (es ++ e ∷ [])
    low' =
        each (λ i. ((get_or (es ++ e ∷ []) i vacant).facts.height ≤ 64) × (count (get_or (es ++ e ∷ []) i vacant).node ≤ 256))
        (λ i l. subst (λ (x : Entry). (x.facts.height ≤ 64) × (count x.node ≤ 256)) (sym (old_entry i l)) (s.low i l))
        (subst (λ (x : Entry). (x.facts.height ≤ 64) × (count x.node ≤ 256)) (sym new_entry) (high, few))

    sole' : OneHandle (held (pool ++ ns) (es ++ e ∷ []))
    sole' =
        subst (λ m. OneHandle m) (sym held-push) (λ i l.
        let m = held pool es in
        ⊎_elim
        (λ (z : i ≡ length m).
        ap (λ k. handle (m ++ new_tree ∷ []) (get_or (m ++ new_tree ∷ []) k nil)) z
        ∙ ap (handle (m ++ new_tree ∷ [])) (get_or_push m new_tree nil (length m) refl)
        ∙ handle_new m new_tree (not_held pool es hd s (cell e.node ns) proper fresh) ∙ sym z)
        (λ (ne : i ≡ length m → ⊥).
        let z : i < length m = omega (arith, length_push m new_tree) in
        let own : handle m (get_or m i nil) ≡ i = s.sole i z in
        ap (handle (m ++ new_tree ∷ [])) (get_or_append_left m (new_tree ∷ []) nil i z)
        ∙ handle_more m (new_tree ∷ []) (get_or m i nil) (omega arith) ∙ own)
        (cases_eq i (length m)))

    counted' : length (pool ++ ns) ≡ used (held (pool ++ ns) (es ++ e ∷ []))
    counted' =
        omega (arith, length-append pool ns, s.counted, ap used held-push, used-push (held pool es) new_tree, parts_many (held pool es) (cell e.node ns) proper)

    pub sound_push : e.hash % length hd < length hd → e.next ≡ get_or hd (e.hash % length hd) 0 → Sound (pool ++ ns) (es ++ e ∷ []) (set hd (e.hash % length hd) (length es + 1))
    sound_push room link =
        record {
          chained = chained_push (λ x. x.hash) (λ x. x.next) es e hd room link s.chained;
          kept = kept';
          placed = placed';
          fitted = fitted';
          known = known';
          deep = deep';
          low = low';
          sole = sole';
          counted = counted';
        }
