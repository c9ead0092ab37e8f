-- What calls that only add leave begins with what was there; cut back, it is what was there.
use Rattle.std.proofs.Common.{◌≡◌, ℕ, ◌≤◌, Bool, true, false, cond, ltb, List, [], ◌∷◌, length, take, Ok, Err, Result, sym, refl, ap, ◌∙◌, arith}
use Rattle.std.proofs.lemmas.List.{take_all, take-take, take_at, length-take}
use Rattle.theory.specs.declared.words.Leaf.{Leaf}
use Rattle.theory.specs.declared.words.Head.{Head}
use Rattle.theory.specs.declared.words.StoreFault.{StoreFault}
use Rattle.theory.specs.Limits.{highest, longest}
use Rattle.theory.specs.Outcomes.{◌>>=◌, answered}
use Rattle.theory.specs.Trees.{Tree, leaf, parts, assembled, height}
use Rattle.theory.specs.Store.{Contents, holds, has_room, with_tree, put, checked, add_leaf, add_node, cut_back, Grown}

pub grown_same : (c : Contents) → Grown c c
grown_same c = record { front = take_all (length c.trees) c.trees (omega arith); entries = refl; items = refl }

pub grown-then : (c d e : Contents) → Grown c d → Grown d e → Grown c e
grown-then c d e g h =
    let short : length c.trees ≤ length d.trees = omega (arith, ap length g.front, length-take (length c.trees) d.trees) in
    record {
      front =
          sym (take-take (length c.trees) (length d.trees) e.trees short) ∙ ap (take (length c.trees)) h.front ∙ g.front;
      entries = h.entries ∙ g.entries;
      items = h.items ∙ g.items;
    }

-- cut back to its length, it is as it was
pub grown-back : (c d : Contents) → Grown c d → cut_back d (length c.trees) ≡ c
grown-back c d g =
    ap (λ ts. record { trees = ts; entries = d.entries; items = d.items }) g.front
    ∙ ap (λ k. record { trees = c.trees; entries = k; items = d.items }) g.entries
    ∙ ap (λ k. record { trees = c.trees; entries = c.entries; items = k }) g.items

grown-tree : (c : Contents) (t : Tree) → Grown c (with_tree c t)
grown-tree c t = record { front = take_at c.trees (t ∷ []) (length c.trees) refl; entries = refl; items = refl }

grown_if : (c : Contents) (b : Bool) (r q : Result (ℕ × Contents) StoreFault) → Grown c (answered c r).1 → Grown c (answered c q).1 → Grown c (answered c (cond b r q)).1
grown_if c true r q g h = g
grown_if c false r q g h = h

pub grown-put : (c : Contents) (t : Tree) → Grown c (answered c (put c t)).1
unfolding put
grown-put c t =
    let same = grown_same c in
    grown_if c (holds c.trees t) _ _ same
    (grown_if c (has_room c t) _ _
    (grown_if c (ltb highest (height t)) _ _ same (grown_if c (ltb longest (length (parts t))) _ _ same (grown-tree c t)))
    same)

pub grown-leaf : (c : Contents) (x : Leaf) → Grown c (add_leaf c x).1
unfolding add_leaf
grown-leaf c x = grown-put c (leaf x)

grown-checked : (c : Contents) (h : Head) (r : Result (List Tree) StoreFault) → Grown c (answered c (r >>= λ ts. put c (assembled h ts))).1
grown-checked c h (Ok ts) = grown-put c (assembled h ts)
grown-checked c h (Err f) = grown_same c

pub grown-node : (c : Contents) (h : Head) (ns : List ℕ) → Grown c (add_node c h ns).1
unfolding add_node
grown-node c h ns = grown-checked c h (checked c.trees h 0 ns)
