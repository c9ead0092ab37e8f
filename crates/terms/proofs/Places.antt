-- Places in a list: what stands at one, and the handle of a tree.
use Rattle.std.proofs.Common.{◌≡◌, ℕ, zero, suc, ◌<◌, ◌≤◌, true, false, List, [], ◌∷◌, ◌++◌, map, length, get_or, sym, refl, ap, ◌∙◌, ⊎_elim, arith}
use mathlib.Core.Option.{none, some}
use Rattle.std.proofs.lemmas.Bool.{cases_Bool, both_ways, cond-true, cond-false}
use Rattle.std.proofs.lemmas.List.{get_or_append_left}
use Rattle.theory.specs.Outcomes.{at, test}
use Rattle.theory.specs.Trees.{Tree, nil, tree?}
use Rattle.theory.specs.Store.{handle, OneHandle}

pub at_in : (m : List Tree) (n : ℕ) → n < length m → at m n ≡ some (get_or m n nil)
at_in [] n l = absurd (omega arith)
at_in (t ∷ m) zero l = refl
at_in (t ∷ m) (suc n) l = at_in m n (omega arith)

pub at_out : (m : List Tree) (n : ℕ) → length m ≤ n → at m n ≡ none
at_out [] n l = refl
at_out (t ∷ m) zero l = absurd (omega arith)
at_out (t ∷ m) (suc n) l = at_out m n (omega arith)

pub at_some : (m : List Tree) (n : ℕ) (t : Tree) → at m n ≡ some t → (n < length m) × (get_or m n nil ≡ t)
at_some [] n t e = let z : ◌≡◌ {A = ℕ} 0 1 = cc in absurd (omega arith)
at_some (u ∷ m) zero t e = (omega arith, cc)
at_some (u ∷ m) (suc n) t e = let p = at_some m n t e in (omega (arith, p.0), p.1)

-- all of the numbers are places
abbrev pub Below : ℕ → List ℕ → Type 0
Below k [] = Unit {0}
Below k (n ∷ ns) = (n < k) × Below k ns

pub below_more : (k l : ℕ) (ns : List ℕ) → k ≤ l → Below k ns → Below l ns
below_more k l [] h b = tt
below_more k l (n ∷ ns) h b = (omega (arith, b.0), below_more k l ns h b.1)

pub below_at : (k : ℕ) (ns : List ℕ) (i : ℕ) → Below k ns → i < length ns → get_or ns i 0 < k
below_at k [] i b l = absurd (omega arith)
below_at k (n ∷ ns) zero b l = b.0
below_at k (n ∷ ns) (suc i) b l = below_at k ns i b.1 (omega arith)

-- the trees at handles
abbrev pub trees-at : List Tree → List ℕ → List Tree
trees-at m ns = map (λ n. get_or m n nil) ns

pub trees_at_more : (m us : List Tree) (ns : List ℕ) → Below (length m) ns → trees-at (m ++ us) ns ≡ trees-at m ns
trees_at_more m us [] b = refl
trees_at_more m us (n ∷ ns) b =
    let e : get_or (m ++ us) n nil ≡ get_or m n nil = get_or_append_left m us nil n b.0 in
    let r : trees-at (m ++ us) ns ≡ trees-at m ns = trees_at_more m us ns b.1 in
    rw (e, r) refl

-- Equality of trees

test_refl : (t : Tree) → test (tree? t t) ≡ true
test_refl t = test_yes (tree? t t)
  where
    test_yes : (d : Dec (t ≡ t)) → test d ≡ true
    test_yes (yes p) = refl
    test_yes (no n) = absurd (n refl)

test_true : (t u : Tree) → test (tree? t u) ≡ true → t ≡ u
test_true t u = from (tree? t u)
  where
    from : (d : Dec (t ≡ u)) → test d ≡ true → t ≡ u
    from (yes p) e = p
    from (no n) e = absurd (both_ways false refl e)

-- Handles

pub handle_le : (m : List Tree) (t : Tree) → handle m t ≤ length m
handle_le [] t = omega arith
handle_le (u ∷ m) t =
    ⊎_elim
    (λ y. rw (cond-true (test (tree? u t)) 0 (suc (handle m t)) y) (omega arith))
    (λ n. rw (cond-false (test (tree? u t)) 0 (suc (handle m t)) n) (omega (arith, handle_le m t)))
    (cases_Bool (test (tree? u t)))

-- what stands at the handle of a tree that is held is that tree
pub handle-hit : (m : List Tree) (t : Tree) → handle m t < length m → get_or m (handle m t) nil ≡ t
handle-hit [] t l = absurd (omega arith)
handle-hit (u ∷ m) t l =
    ⊎_elim
    (λ y. rw (cond-true (test (tree? u t)) 0 (suc (handle m t)) y) (test_true u t y))
    (λ n.
    let e : handle (u ∷ m) t ≡ suc (handle m t) = cond-false (test (tree? u t)) 0 (suc (handle m t)) n in
    rw e (handle-hit m t (omega (arith, e))))
    (cases_Bool (test (tree? u t)))

-- a tree that is held keeps its handle
pub handle_more : (m us : List Tree) (t : Tree) → handle m t < length m → handle (m ++ us) t ≡ handle m t
handle_more [] us t l = absurd (omega arith)
handle_more (u ∷ m) us t l =
    ⊎_elim
    (λ y. cond-true (test (tree? u t)) 0 _ y ∙ sym (cond-true (test (tree? u t)) 0 _ y))
    (λ n.
    let e : handle (u ∷ m) t ≡ suc (handle m t) = cond-false (test (tree? u t)) 0 _ n in
    cond-false (test (tree? u t)) 0 _ n ∙ ap suc (handle_more m us t (omega (arith, e))) ∙ sym e)
    (cases_Bool (test (tree? u t)))

-- a tree that is not held gets the next handle
pub handle_new : (m : List Tree) (t : Tree) → length m ≤ handle m t → handle (m ++ t ∷ []) t ≡ length m
handle_new [] t l = cond-true (test (tree? t t)) 0 1 (test_refl t)
handle_new (u ∷ m) t l =
    ⊎_elim
    (λ y. absurd (omega (arith, cond-true (test (tree? u t)) 0 (suc (handle m t)) y)))
    (λ n.
    let e : handle (u ∷ m) t ≡ suc (handle m t) = cond-false (test (tree? u t)) 0 _ n in
    cond-false (test (tree? u t)) 0 _ n ∙ ap suc (handle_new m t (omega (arith, e))))
    (cases_Bool (test (tree? u t)))

-- handles are read back from their trees
pub handles-back : (m : List Tree) (ns : List ℕ) → OneHandle m → Below (length m) ns → map (handle m) (trees-at m ns) ≡ ns
handles-back m [] one b = refl
handles-back m (n ∷ ns) one b =
    let e : handle m (get_or m n nil) ≡ n = one n b.0 in
    let r : map (handle m) (trees-at m ns) ≡ ns = handles-back m ns one b.1 in
    rw (e, r) refl

-- a tree that stands in the front has its handle there
pub handle-front : (m us : List Tree) (t : Tree) → handle (m ++ us) t < length m → handle m t ≡ handle (m ++ us) t
handle-front [] us t l = absurd (omega arith)
handle-front (u ∷ m) us t l =
    ⊎_elim
    (λ y. cond-true (test (tree? u t)) 0 _ y ∙ sym (cond-true (test (tree? u t)) 0 _ y))
    (λ n.
    let e : handle (u ∷ m ++ us) t ≡ suc (handle (m ++ us) t) = cond-false (test (tree? u t)) 0 _ n in
    cond-false (test (tree? u t)) 0 _ n ∙ ap suc (handle-front m us t (omega (arith, e))) ∙ sym e)
    (cases_Bool (test (tree? u t)))
