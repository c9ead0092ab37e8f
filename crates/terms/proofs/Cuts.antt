-- What stands true of a store's memory stands after its last entry is taken away.
use Rattle.std.proofs.Common.{◌≡◌, ℕ, zero, suc, ◌+◌, ◌%◌, ◌<◌, ◌≤◌, true, List, [], ◌∷◌, ◌++◌, map, length, get_or, take, drop, set, sym, ap, ◌∙◌, subst, arith}
use Rattle.std.proofs.lemmas.List.{length-append, length-take-le, length-map, get_or-take, take-take, take-map, take-append-drop, take_more, take_all}
use Rattle.theory.specs.Trees.{Tree, nil, parts, height, flags, outer}
use Rattle.theory.specs.Store.{handle, OneHandle, used}
use Rattle.maps.specs.Chains.{Chained}
use Rattle.maps.proofs.Links.{chained_pop}
use Rattle.terms.specs.declared.memory.entry.Entry.{Entry}
use Rattle.terms.specs.Hash.{hashed}
use Rattle.terms.specs.Memory.{Cell, cell_of, vacant, tree_of, grown, held, Within, fits, handles_at}
use Rattle.theory.specs.Trees.{part_count as count}
use Rattle.terms.proofs.Places.{handle-front}
use Rattle.terms.proofs.Cells.{cells, cell_more, cells_more, grown-front, length-held, own_proper, own_tree}
use Rattle.terms.specs.Means.{Sound}
use Rattle.terms.proofs.Stands.{parts_many, used-push}

-- what the first cells grow to is the front of what all grow to
grown-take : (m : List Tree) (cs : List Cell) (k : ℕ) → k ≤ length cs → grown m (take k cs) ≡ take (length m + k) (grown m cs)
grown-take m cs zero l = sym (ap (λ j. take j (grown m cs)) (omega arith) ∙ grown-front m cs)
grown-take m [] (suc k) l = absurd (omega arith)
grown-take m (c ∷ cs) (suc k) l =
    let n = m ++ tree_of m c ∷ [] in
    let e : length n + k ≡ length m + suc k = omega (arith, length-append m (tree_of m c ∷ [])) in
    grown-take n cs k (omega arith) ∙ ap (λ j. take j (grown n cs)) e

used_mono : (m : List Tree) (i k : ℕ) → i ≤ k → used (take i m) ≤ used (take k m)
used_mono m zero k l = omega arith
used_mono [] (suc i) k l = omega arith
used_mono (t ∷ m) (suc i) zero l = absurd (omega arith)
used_mono (t ∷ m) (suc i) (suc k) l = omega (arith, used_mono m i k (omega arith))

module _ (pool : List ℕ) (es : List Entry) (hd : List ℕ) (s : Sound pool es hd) (n : ℕ) (last : n + 1 ≡ length es) where
  abbrev all : List Tree
  all = held pool es

  abbrev f : ℕ
  f = (get_or es n vacant).first

  inside : n < length es
  inside = omega arith

  start : f ≡ used (take n all)
  start = s.placed n inside

  -- the parts of an entry end where those of the next begin
  ends : (i : ℕ) → i < length es → (get_or es i vacant).first + count (get_or es i vacant).node ≡ used (take (i + 1) all)
  ends i l =
      let t = get_or all i nil in
      let e = get_or es i vacant in
      let p = own_proper pool es s.kept s.fitted i l in
      let many : length (parts t) ≡ count e.node = ap (λ x. length (parts x)) (own_tree pool es s.kept s.fitted i l) ∙ parts_many all (cell_of pool e) p ∙ sym p.all in
      let lt : i < length all = omega (arith, length-held pool es) in
      omega (arith, s.placed i l, many, ap used (take_more all i nil lt), used-push (take i all) t)

  before : (i : ℕ) → i < n → (get_or es i vacant).first + count (get_or es i vacant).node ≤ f
  before i l = omega (arith, ends i (omega arith), start, used_mono all (i + 1) n (omega arith))

  short : f ≤ length pool
  short = omega (arith, (s.kept n inside).0)

  long : length (take f pool) ≡ f
  long = length-take-le f pool short

  old : (i : ℕ) → i < n → get_or (take n es) i vacant ≡ get_or es i vacant
  old i l = get_or-take n es i vacant l

  fewer : length (take n es) ≡ n
  fewer = length-take-le n es (omega arith)

  within : (i : ℕ) → i < n → Within (take f pool) (get_or es i vacant)
  within i l = omega (arith, before i l, long)

  old_cell : (i : ℕ) → i < n → cell_of (take f pool) (get_or (take n es) i vacant) ≡ cell_of pool (get_or es i vacant)
  old_cell i l =
      ap (cell_of (take f pool)) (old i l)
      ∙ sym (cell_more (take f pool) (drop f pool) (get_or es i vacant) (within i l))
      ∙ ap (λ xs. cell_of xs (get_or es i vacant)) (take-append-drop f pool)

  pub held_cut : held (take (get_or es n vacant).first pool) (take n es) ≡ take n (held pool es)
  held_cut =
      let same : cells (take f pool) (take n es) ≡ cells pool (take n es) =
      sym (cells_more (take f pool) (drop f pool) (take n es) (λ i l. subst (λ x. Within (take f pool) x) (sym (old i (omega (arith, fewer)))) (within i (omega (arith, fewer)))))
      ∙ ap (λ xs. cells xs (take n es)) (take-append-drop f pool)
      in
      let z : 0 + n ≡ n = omega arith in
      ap (grown []) (same ∙ sym (take-map (cell_of pool) n es))
      ∙ grown-take [] (cells pool es) n (omega (arith, length-map es (cell_of pool)))
      ∙ ap (λ k. take k all) z

  old_tree : (i : ℕ) → i < n → get_or (take n all) i nil ≡ get_or all i nil
  old_tree i l = get_or-take n all i nil l

  -- what stands of each of the first entries
  each : (P : ℕ → Type 0) → ((i : ℕ) → i < n → P i) → (i : ℕ) → i < length (take n es) → P i
  each P olds i l = olds i (omega (arith, fewer))

  -- the last entry stands behind the others
  split : es ≡ take n es ++ get_or es n vacant ∷ []
  split = sym (take_all (n + 1) es (omega arith)) ∙ take_more es n vacant inside

  pub sound_cut : (get_or es n vacant).hash % length hd < length hd → Sound (take (get_or es n vacant).first pool) (take n es) (set hd ((get_or es n vacant).hash % length hd) (get_or es n vacant).next)
  sound_cut room =
      record {
        chained =
            chained_pop (λ x. x.hash) (λ x. x.next) (take n es) (get_or es n vacant) hd room
            (subst (λ xs. Chained (map (λ (x : Entry). x.hash) xs) (map (λ (x : Entry). x.next) xs) hd) split s.chained);
        kept =
            each (λ i. Within (take f pool) (get_or (take n es) i vacant) × ((get_or (take n es) i vacant).hash ≡ hashed (get_or (take n es) i vacant).node (handles_at (take f pool) (take n es) i)))
            (λ i l. (
              subst (λ x. Within (take f pool) x) (sym (old i l)) (within i l),
              ap (λ (x : Entry). x.hash) (old i l) ∙ (s.kept i (omega arith)).1 ∙ ap (λ (c : Cell). hashed c.form c.handles) (sym (old_cell i l)),
            ));
        placed =
            subst (λ m. (i : ℕ) → i < length (take n es) → (get_or (take n es) i vacant).first ≡ used (take i m)) (sym held_cut)
            (each (λ i. (get_or (take n es) i vacant).first ≡ used (take i (take n all)))
            (λ i l. ap (λ (x : Entry). x.first) (old i l) ∙ s.placed i (omega arith) ∙ ap used (sym (take-take i n all (omega arith)))));
        fitted =
            subst (λ m. (i : ℕ) → i < length (take n es) → fits (take i m) (get_or (take n es) i vacant).node (handles_at (take f pool) (take n es) i) ≡ true) (sym held_cut)
            (each (λ i. fits (take i (take n all)) (get_or (take n es) i vacant).node (handles_at (take f pool) (take n es) i) ≡ true)
            (λ i l.
            ap (λ m. fits m (get_or (take n es) i vacant).node (handles_at (take f pool) (take n es) i)) (take-take i n all (omega arith))
            ∙ ap (λ (c : Cell). fits (take i all) c.form c.handles) (old_cell i l) ∙ s.fitted i (omega arith)));
        known =
            subst (λ m. (i : ℕ) → i < length (take n es) → ((get_or (take n es) i vacant).facts.height ≡ height (get_or m i nil)) × ((get_or (take n es) i vacant).facts.flags.bits ≡ flags (get_or m i nil))) (sym held_cut)
            (each (λ i. ((get_or (take n es) i vacant).facts.height ≡ height (get_or (take n all) i nil)) × ((get_or (take n es) i vacant).facts.flags.bits ≡ flags (get_or (take n all) i nil)))
            (λ i l. (
              ap (λ (x : Entry). x.facts.height) (old i l) ∙ (s.known i (omega arith)).0 ∙ ap height (sym (old_tree i l)),
              ap (λ (x : Entry). x.facts.flags.bits) (old i l) ∙ (s.known i (omega arith)).1 ∙ ap flags (sym (old_tree i l)),
            )));
        deep =
            subst (λ m. (i : ℕ) → i < length (take n es) → (get_or (take n es) i vacant).facts.outer ≡ outer (get_or m i nil)) (sym held_cut)
            (each (λ i. (get_or (take n es) i vacant).facts.outer ≡ outer (get_or (take n all) i nil))
            (λ i l. ap (λ (x : Entry). x.facts.outer) (old i l) ∙ s.deep i (omega arith) ∙ ap outer (sym (old_tree i l))));
        low =
            each (λ i. ((get_or (take n es) i vacant).facts.height ≤ 64) × (count (get_or (take n es) i vacant).node ≤ 256))
            (λ i l. subst (λ (x : Entry). (x.facts.height ≤ 64) × (count x.node ≤ 256)) (sym (old i l)) (s.low i (omega arith)));
        sole =
            subst (λ m. OneHandle m) (sym held_cut) (λ i l.
            let size : length (take n all) ≡ n = length-take-le n all (omega (arith, length-held pool es)) in
            let z : i < n = omega arith in
            let split : take n all ++ drop n all ≡ all = take-append-drop n all in
            let own : handle all (get_or all i nil) ≡ i = s.sole i (omega (arith, length-held pool es)) in
            let whole : handle (take n all ++ drop n all) (get_or all i nil) ≡ i = ap (λ m. handle m (get_or all i nil)) split ∙ own in
            ap (handle (take n all)) (old_tree i z)
            ∙ handle-front (take n all) (drop n all) (get_or all i nil) (omega arith) ∙ whole);
        counted = long ∙ start ∙ ap used (sym held_cut);
      }
