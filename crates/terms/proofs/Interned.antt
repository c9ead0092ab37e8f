-- What putting a tree answers, from what a search for its cell found.
use Rattle.std.proofs.Common.{◌≡◌, ◌↔◌, ℕ, ◌<◌, ◌≤◌, Bool, true, false, IsTrue, ltb, length, get_or, Some, None, Ok, Err, Option, sym, refl, ap, ◌∙◌, subst, arith}
use Rattle.std.proofs.lemmas.Bool.{lt-ltb, le-ltb, both_ways, true≢false}
use Rattle.std.proofs.lemmas.Option.{slice_get_within, slice_get-get_or, get_or_from_slice_get}
use Rattle.theory.specs.declared.words.StoreFault.TheVariants.{Full, TooHigh, TooLong}
use Rattle.theory.specs.Limits.{highest, longest, most_entries}
use Rattle.theory.specs.Outcomes.{answered}
use Rattle.theory.specs.Trees.{Tree, nil, parts, height}
use Rattle.theory.specs.Store.{Contents, handle, holds, has_room, with_tree, put}
use Rattle.maps.specs.Chains.{Sought}
use Rattle.terms.specs.declared.store.Store.TheInside.{Inside}
use Rattle.terms.specs.declared.memory.entry.Entry.{Entry}
use Rattle.terms.specs.Hash.{hashed}
use Rattle.terms.specs.Memory.{Cell, cell_of, vacant, IsAt, tree_of}
use Rattle.terms.specs.Interning.{Proper, Located, room_for}
use Rattle.terms.specs.Means.{pool_of, entries_of, trees_of, means, IsIntact}
use Rattle.terms.proofs.Cells.{length-held, own_tree}
use Rattle.terms.proofs.Stands.{not_held, parts_many}

-- A search for a cell

module _ (s : Inside) (w : IsIntact s) (c : Cell) (proper : Proper (trees_of s) c) where
  abbrev t : Tree
  t = tree_of (trees_of s) c

  -- what stands at a place has that place as its handle
  own_handle : (i : ℕ) → (i < length (entries_of s)) × IsAt (pool_of s) (entries_of s) c i → (i < length (trees_of s)) × (handle (trees_of s) t ≡ i)
  own_handle i h =
      let m = trees_of s in
      let l : i < length m = omega (arith, h.0, length-held (pool_of s) (entries_of s)) in
      let is : get_or m i nil ≡ t = own_tree (pool_of s) (entries_of s) w.sound.kept w.sound.fitted i h.0 ∙ ap (tree_of m) h.1 in
      (l, ap (handle m) (sym is) ∙ w.sound.sole i l)

  -- by the cell's hash, and a test that tells whether an entry has the cell
  found_cell : (Says : Entry → Bool → Type 0) → ((e : Entry) (b : Bool) → Says e b → IsTrue b ↔ (cell_of (pool_of s) e ≡ c)) → (h : ℕ) → h ≡ hashed c.form c.handles → (o : Option ℕ) → Sought (λ (e : Entry). e.hash) Says h (entries_of s) o → Located (trees_of s) (tree_of (trees_of s) c) o
  found_cell Says tells h is (Some i) f =
      let e = f.found.0 in
      let at : get_or (entries_of s) i vacant ≡ e = get_or_from_slice_get (entries_of s) i e vacant f.found.1 in
      let own = own_handle i (slice_get_within (entries_of s) i e f.found.1, ap (cell_of (pool_of s)) at ∙ (tells e true f.found.3).0 refl) in
      (lt-ltb (handle (trees_of s) t) (length (trees_of s)) (omega (arith, own.0, own.1)), own.1)
  found_cell Says tells h is None f =
      le-ltb (handle (trees_of s) t) (length (trees_of s))
      (not_held (pool_of s) (entries_of s) _ w.sound c proper
      (λ k l own.
      let e = get_or (entries_of s) k vacant in
      let hash = (w.sound.kept k l).1 ∙ ap (λ (d : Cell). hashed d.form d.handles) own ∙ sym is in
      let no = f.passed k e tt (slice_get-get_or (entries_of s) k vacant l) hash in
      true≢false (sym ((tells e false no).1 own))))

  -- where the tree is not held, no entry has the cell
  pub not_at : holds (trees_of s) (tree_of (trees_of s) c) ≡ false → (k : ℕ) → k < length (entries_of s) → IsAt (pool_of s) (entries_of s) c k → ⊥
  not_at missing k l e =
      let own = own_handle k (l, e) in
      both_ways (holds (trees_of s) t) missing (lt-ltb (handle (trees_of s) t) (length (trees_of s)) (omega (arith, own.0, own.1)))

module _ (s : Inside) (w : IsIntact s) (Says : Entry → Bool → Type 0) (h : ℕ) where
  -- by what the store means
  pub located : (m : Contents) → means s ≡ m → (c : Cell) → Proper m.trees c → ((e : Entry) (b : Bool) → Says e b → IsTrue b ↔ (cell_of (pool_of s) e ≡ c)) → h ≡ hashed c.form c.handles → (o : Option ℕ) → Sought (λ (e : Entry). e.hash) Says h (entries_of s) o → Located m.trees (tree_of m.trees c) o
  located m means_it c proper tells is o f =
      subst (λ (n : Contents). Located n.trees (tree_of n.trees c) o) means_it
      (found_cell s w c (subst (λ (n : Contents). Proper n.trees c) (sym means_it) proper) Says tells h is o f)

  -- what is found stands where a handle can name it
  pub found_below : (i : ℕ) → Sought (λ (e : Entry). e.hash) Says h (entries_of s) (Some i) → i < most_entries
  found_below i f =
      omega (arith, slice_get_within (entries_of s) i f.found.0 f.found.1, length-held (pool_of s) (entries_of s), w.long, w.within, w.few)

-- Putting the tree of a cell

module _ (c : Contents) (k : Cell) (proper : Proper c.trees k) where
  abbrev tree : Tree
  tree = tree_of c.trees k

  many : length (parts tree) ≡ length k.handles
  many = parts_many c.trees k proper

  pub put-held : (i : ℕ) → Located c.trees (tree_of c.trees k) (Some i) → (Ok i, c) ≡ answered c (put c (tree_of c.trees k))
  unfolding put
  put-held i h = rw (h.0, h.1) refl

  module _ (missing : holds c.trees (tree_of c.trees k) ≡ false) where
    pub put_full : room_for c (length k.handles) ≡ false → (Err Full, c) ≡ answered c (put c (tree_of c.trees k))
    unfolding put
    put_full full = let none : has_room c tree ≡ false = ap (room_for c) many ∙ full in rw (missing, none) refl

    module _ (room : room_for c (length k.handles) ≡ true) where
      left : has_room c tree ≡ true
      left = ap (room_for c) many ∙ room

      pub put_high : highest < height (tree_of c.trees k) → (Err TooHigh, c) ≡ answered c (put c (tree_of c.trees k))
      unfolding put
      put_high h = let high : ltb highest (height tree) ≡ true = lt-ltb highest (height tree) h in rw (missing, left, high) refl

      module _ (low : height (tree_of c.trees k) ≤ highest) where
        flat : ltb highest (height tree) ≡ false
        flat = le-ltb highest (height tree) low

        pub put_long : longest < length k.handles → (Err TooLong, c) ≡ answered c (put c (tree_of c.trees k))
        unfolding put
        put_long h = let long : ltb longest (length (parts tree)) ≡ true = lt-ltb longest (length (parts tree)) (omega (arith, many)) in rw (missing, left, flat, long) refl

        pub put_new : length k.handles ≤ longest → (Ok (length c.trees), with_tree c (tree_of c.trees k)) ≡ answered c (put c (tree_of c.trees k))
        unfolding put
        put_new h = let short : ltb longest (length (parts tree)) ≡ false = le-ltb longest (length (parts tree)) (omega (arith, many)) in rw (missing, left, flat, short) refl
