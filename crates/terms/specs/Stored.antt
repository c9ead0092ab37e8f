-- A code of what a store means, by which proofs tell contents apart: each tree by its form and its parts.
use Rattle.std.specs.Prelude.{◌≡◌, ℕ, List, refl}
use Rattle.std.proofs.Common.{ap, arith}
use Rattle.std.specs.Coded.{Coded, code_by, coded_ℕ, coded×, coded_list}
use base.Stored.{Gv, gnil, gnum, gcons}
use Rattle.theory.specs.declared.words.Leaf.{Leaf}
use Rattle.theory.specs.declared.words.Head.{Head}
use Rattle.theory.specs.Codes.{leaf_code, leaf_from, leaf_back, head_code, head_from, head_back}
use Rattle.theory.specs.Trees.{Tree, leaf, node, nil, cons}
use Rattle.theory.specs.Store.{Contents}

abbrev three : Type 0
three = ℕ × (ℕ × ℕ)

abbrev coded_three : Coded three
coded_three = coded× coded_ℕ (coded× coded_ℕ coded_ℕ)

abbrev coded_leaf : Coded Leaf
coded_leaf = code_by three coded_three (λ x. let c = leaf_code x in (c.tag, (c.one, c.two))) (λ p. leaf_from p.0 p.1.0 p.1.1) leaf_back

abbrev coded_head : Coded Head
coded_head = code_by three coded_three (λ h. let c = head_code h in (c.tag, (c.one, c.two))) (λ p. head_from p.0 p.1.0 p.1.1) head_back

abbrev tree_code : Tree → Gv
tree_code (leaf x) = gcons (gnum 0) (coded_leaf.code x)
tree_code (node h t) = gcons (gnum 1) (gcons (coded_head.code h) (tree_code t))
tree_code nil = gnil
tree_code (cons t u) = gcons (gnum 2) (gcons (tree_code t) (tree_code u))

pub same_tree : (t u : Tree) → tree_code t ≡ tree_code u → t ≡ u
same_tree (leaf x) (leaf y) e = let p : coded_leaf.code x ≡ coded_leaf.code y = cc in ap leaf (coded_leaf.inj x y p)
same_tree (leaf x) (node k u) e = let z : ◌≡◌ {A = ℕ} 0 1 = cc in absurd (omega arith)
same_tree (leaf x) nil e = let z : ◌≡◌ {A = ℕ} 0 1 = cc in absurd (omega arith)
same_tree (leaf x) (cons u v) e = let z : ◌≡◌ {A = ℕ} 0 2 = cc in absurd (omega arith)
same_tree (node h t) (leaf y) e = let z : ◌≡◌ {A = ℕ} 1 0 = cc in absurd (omega arith)
same_tree (node h t) (node k u) e =
    let p : coded_head.code h ≡ coded_head.code k = cc in
    let q : tree_code t ≡ tree_code u = cc in
    let heads : h ≡ k = coded_head.inj h k p in
    let trees : t ≡ u = same_tree t u q in
    cc
same_tree (node h t) nil e = let z : ◌≡◌ {A = ℕ} 0 1 = cc in absurd (omega arith)
same_tree (node h t) (cons u v) e = let z : ◌≡◌ {A = ℕ} 1 2 = cc in absurd (omega arith)
same_tree nil (leaf y) e = let z : ◌≡◌ {A = ℕ} 0 1 = cc in absurd (omega arith)
same_tree nil (node k u) e = let z : ◌≡◌ {A = ℕ} 0 1 = cc in absurd (omega arith)
same_tree nil nil e = refl
same_tree nil (cons u v) e = let z : ◌≡◌ {A = ℕ} 0 1 = cc in absurd (omega arith)
same_tree (cons t v) (leaf y) e = let z : ◌≡◌ {A = ℕ} 2 0 = cc in absurd (omega arith)
same_tree (cons t v) (node k u) e = let z : ◌≡◌ {A = ℕ} 2 1 = cc in absurd (omega arith)
same_tree (cons t v) nil e = let z : ◌≡◌ {A = ℕ} 0 1 = cc in absurd (omega arith)
same_tree (cons t v) (cons u w) e =
    let p : tree_code t ≡ tree_code u = cc in
    let q : tree_code v ≡ tree_code w = cc in
    let firsts : t ≡ u = same_tree t u p in
    let rests : v ≡ w = same_tree v w q in
    cc

abbrev coded_tree : Coded Tree
coded_tree = record { code = tree_code; inj = same_tree }

abbrev pub coded_contents : Coded Contents
coded_contents =
    code_by (List Tree × (ℕ × ℕ)) (coded× (coded_list coded_tree) (coded× coded_ℕ coded_ℕ))
    (λ c. (c.trees, (c.entries, c.items))) (λ p. record { trees = p.0; entries = p.1.0; items = p.1.1 }) (λ _. refl)
