-- The trees of cells: what each cell's tree is, and that the tree of a cell is read back as that cell.
use Rattle.std.proofs.Common.{◌≡◌, ℕ, zero, suc, ◌+◌, ◌<◌, ◌≤◌, true, false, List, [], ◌∷◌, ◌++◌, map, length, get_or, take, drop, sym, refl, ap, ◌∙◌, subst, arith}
use Rattle.std.proofs.lemmas.Bool.{both_ways}
use Rattle.std.proofs.lemmas.List.{length-map, length-append, length_push, length-take-le, get_or_append_left, get_or_push, get_or-take, get_or-map, take_at, take-append-le, take-append-drop, take_all, append-nil, drop-append-le, length-drop, same_lists, map_push}
use Rattle.theory.specs.declared.words.Node.{Node}
use Rattle.theory.specs.declared.words.Node.TheVariants.{Leaf as ALeaf, Over}
use Rattle.theory.specs.Trees.{Tree, nil, parts, seen}
use Rattle.theory.specs.Store.{handle, OneHandle}
use Rattle.terms.specs.declared.memory.entry.Entry.{Entry}
use Rattle.terms.specs.Memory.{Cell, cell, cell_of, vacant, formed, tree_of, grown, held, Within, fits, Kept, Fitted}
use Rattle.theory.specs.Trees.{part_count as count}
use Rattle.terms.specs.Interning.{Proper}
use Rattle.terms.proofs.Places.{Below, trees-at, trees_at_more, handles-back}
use Rattle.terms.proofs.Fits.{accepted_below, accepted_more, parts-assembled, seen-assembled}

fits_below : (m : List Tree) (v : Node) (ns : List ℕ) → fits m v ns ≡ true → Below (length m) ns
fits_below m (ALeaf x) [] e = tt
fits_below m (ALeaf x) (n ∷ ns) e = absurd (both_ways false refl e)
fits_below m (Over h k) ns e = accepted_below m h 0 ns e

pub proper_below : (m : List Tree) (c : Cell) → Proper m c → Below (length m) c.handles
proper_below m c p = fits_below m c.form c.handles p.fit

fits_more : (m us : List Tree) (v : Node) (ns : List ℕ) → fits m v ns ≡ true → fits (m ++ us) v ns ≡ true
fits_more m us (ALeaf x) [] e = e
fits_more m us (ALeaf x) (n ∷ ns) e = e
fits_more m us (Over h k) ns e = accepted_more m us h 0 ns e

pub proper_more : (m us : List Tree) (c : Cell) → Proper m c → Proper (m ++ us) c
proper_more m us c p = record { fit = fits_more m us c.form c.handles p.fit; all = p.all }

pub tree_more : (m us : List Tree) (c : Cell) → Proper m c → tree_of (m ++ us) c ≡ tree_of m c
tree_more m us c p = ap (formed c.form) (trees_at_more m us c.handles (proper_below m c p))

-- Read back

parts-formed : (m : List Tree) (v : Node) (ns : List ℕ) → fits m v ns ≡ true → parts (formed v (trees-at m ns)) ≡ trees-at m ns
parts-formed m (ALeaf x) [] e = refl
parts-formed m (ALeaf x) (n ∷ ns) e = absurd (both_ways false refl e)
parts-formed m (Over h k) ns e = parts-assembled m h ns e

pub parts_of : (m : List Tree) (c : Cell) → Proper m c → parts (tree_of m c) ≡ trees-at m c.handles
parts_of m c p = parts-formed m c.form c.handles p.fit

seen-formed : (m : List Tree) (v : Node) (ns : List ℕ) → fits m v ns ≡ true → count v ≡ length ns → seen (formed v (trees-at m ns)) ≡ v
seen-formed m (ALeaf x) ns e a = refl
seen-formed m (Over h k) ns e a =
    seen-assembled h (trees-at m ns) ∙ ap (Over h) (ap length (parts-assembled m h ns e) ∙ length-map ns (λ n. get_or m n nil) ∙ sym a)

pub seen_of : (m : List Tree) (c : Cell) → Proper m c → seen (tree_of m c) ≡ c.form
seen_of m c p = seen-formed m c.form c.handles p.fit p.all

-- one tree is of one cell
pub same_cell : (m : List Tree) (c d : Cell) → OneHandle m → Proper m c → Proper m d → tree_of m c ≡ tree_of m d → c ≡ d
same_cell m c d one p q e =
    let form : c.form ≡ d.form = sym (seen_of m c p) ∙ ap seen e ∙ seen_of m d q in
    let trees : trees-at m c.handles ≡ trees-at m d.handles = sym (parts_of m c p) ∙ ap parts e ∙ parts_of m d q in
    let handles : c.handles ≡ d.handles =
    sym (handles-back m c.handles one (proper_below m c p)) ∙ ap (map (handle m)) trees ∙ handles-back m d.handles one (proper_below m d q)
    in
    ap (λ v. cell v c.handles) form ∙ ap (cell d.form) handles

-- Growing

pub grown-push : (m : List Tree) (cs : List Cell) (c : Cell) → grown m (cs ++ c ∷ []) ≡ grown m cs ++ tree_of (grown m cs) c ∷ []
grown-push m [] c = refl
grown-push m (d ∷ cs) c = grown-push (m ++ tree_of m d ∷ []) cs c

pub length-grown : (m : List Tree) (cs : List Cell) → length (grown m cs) ≡ length m + length cs
length-grown m [] = omega arith
length-grown m (c ∷ cs) = omega (arith, length-grown (m ++ tree_of m c ∷ []) cs, length_push m (tree_of m c))

pub grown-front : (m : List Tree) (cs : List Cell) → take (length m) (grown m cs) ≡ m
grown-front m [] = take_all (length m) m (omega arith)
grown-front m (c ∷ cs) =
    let t = tree_of m c in
    let rest = grown (m ++ t ∷ []) cs in
    let front : take (length (m ++ t ∷ [])) rest ≡ m ++ t ∷ [] = grown-front (m ++ t ∷ []) cs in
    let l : length m ≤ length (m ++ t ∷ []) = omega (arith, length_push m t) in
    sym (Rattle.std.proofs.lemmas.List.take-take (length m) (length (m ++ t ∷ [])) rest l) ∙ ap (take (length m)) front ∙ take_at m (t ∷ []) (length m) refl

-- each tree is that of its cell, over the trees before it
pub grown-at : (m : List Tree) (cs : List Cell) (i : ℕ) (d : Cell) → i < length cs → get_or (grown m cs) (length m + i) nil ≡ tree_of (take (length m + i) (grown m cs)) (get_or cs i d)
grown-at m [] i d l = absurd (omega arith)
grown-at m (c ∷ cs) zero d l =
    let t = tree_of m c in
    let n = m ++ t ∷ [] in
    let z : length m + 0 ≡ length m = omega arith in
    let lt : length m < length n = omega (arith, length_push m t) in
    ap (λ k. get_or (grown n cs) k nil) z
    ∙ sym (get_or-take (length n) (grown n cs) (length m) nil lt) ∙ ap (λ xs. get_or xs (length m) nil) (grown-front n cs) ∙ get_or_push m t nil (length m) refl
    ∙ ap (λ xs. tree_of xs c) (sym (ap (λ k. take k (grown n cs)) z ∙ grown-front m (c ∷ cs)))
grown-at m (c ∷ cs) (suc i) d l =
    let n = m ++ tree_of m c ∷ [] in
    let e : length m + suc i ≡ length n + i = omega (arith, length_push m (tree_of m c)) in
    let r = grown-at n cs i d (omega arith) in
    subst (λ k. get_or (grown n cs) k nil ≡ tree_of (take k (grown n cs)) (get_or cs i d)) (sym e) r

-- Entries over a pool that grows

pub cell_more : (pool ps : List ℕ) (e : Entry) → Within pool e → cell_of (pool ++ ps) e ≡ cell_of pool e
cell_more pool ps e w =
    let f : e.first ≤ length pool = omega arith in
    let n : count e.node ≤ length (drop e.first pool) = omega (arith, length-drop e.first pool) in
    ap (cell e.node)
    (ap (take (count e.node)) (drop-append-le e.first pool ps f) ∙ take-append-le (count e.node) (drop e.first pool) ps n)

-- the cells of all entries
abbrev pub cells : List ℕ → List Entry → List Cell
cells pool es = map (cell_of pool) es

pub cells_more : (pool ps : List ℕ) (es : List Entry) → ((i : ℕ) → i < length es → Within pool (get_or es i vacant)) → cells (pool ++ ps) es ≡ cells pool es
cells_more pool ps [] w = refl
cells_more pool ps (e ∷ es) w =
    let h : cell_of (pool ++ ps) e ≡ cell_of pool e = cell_more pool ps e (w 0 (omega arith)) in
    let r : cells (pool ++ ps) es ≡ cells pool es = cells_more pool ps es (λ i l. w (suc i) (omega arith)) in
    rw (h, r) refl

pub length-held : (pool : List ℕ) (es : List Entry) → length (held pool es) ≡ length es
length-held pool es = omega (arith, length-grown [] (cells pool es), length-map es (cell_of pool))

pub own_tree_before : (pool : List ℕ) (es : List Entry) (i : ℕ) → i < length es → get_or (held pool es) i nil ≡ tree_of (take i (held pool es)) (cell_of pool (get_or es i vacant))
own_tree_before pool es i l =
    let c = cell_of pool (get_or es i vacant) in
    let lc : i < length (cells pool es) = omega (arith, length-map es (cell_of pool)) in
    let g = grown-at [] (cells pool es) i c lc in
    let z : 0 + i ≡ i = omega arith in
    subst (λ k. get_or (held pool es) k nil ≡ tree_of (take k (held pool es)) (get_or (cells pool es) i c)) z g
    ∙ ap (tree_of (take i (held pool es))) (get_or-map (cell_of pool) es i vacant c l)

-- What stands true of every entry gives: it is a proper cell, and its tree is that of its cell

module _ (pool : List ℕ) (es : List Entry) (kept : Kept pool es) (fitted : Fitted pool es) where
  pub own_before : (i : ℕ) → i < length es → Proper (take i (held pool es)) (cell_of pool (get_or es i vacant))
  own_before i l =
      let e = get_or es i vacant in
      let w = (kept i l).0 in
      let n : count e.node ≤ length (drop e.first pool) = omega (arith, length-drop e.first pool) in
      record { fit = fitted i l; all = sym (length-take-le (count e.node) (drop e.first pool) n) }

  pub own_proper : (i : ℕ) → i < length es → Proper (held pool es) (cell_of pool (get_or es i vacant))
  own_proper i l =
      subst (λ x. Proper x (cell_of pool (get_or es i vacant))) (take-append-drop i (held pool es))
      (proper_more (take i (held pool es)) (drop i (held pool es)) _ (own_before i l))

  pub own_tree : (i : ℕ) → i < length es → get_or (held pool es) i nil ≡ tree_of (held pool es) (cell_of pool (get_or es i vacant))
  own_tree i l =
      let c = cell_of pool (get_or es i vacant) in
      own_tree_before pool es i l
      ∙ sym (tree_more (take i (held pool es)) (drop i (held pool es)) c (own_before i l))
      ∙ ap (λ x. tree_of x c) (take-append-drop i (held pool es))
