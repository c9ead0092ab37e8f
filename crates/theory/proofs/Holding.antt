-- What a store holds after calls that were accepted: it has only grown, and a tree that was put stands at its handle.
-- The same of the one fold.
use Rattle.std.proofs.Common.{◌≡◌, ℕ, zero, suc, ◌+◌, ◌<◌, Bool, true, false, cond, ltb, List, [], ◌∷◌, ◌++◌, length, get_or, take, Ok, Err, Result, sym, refl, ap, ◌∙◌, subst, arith, ltb-true}
use mathlib.Core.Option.{Option, some}
use Rattle.theory.specs.declared.words.ListSort.TheVariants.{Arguments}
use Rattle.theory.specs.declared.words.Leaf.{Leaf}
use Rattle.theory.specs.declared.words.Head.{Head}
use Rattle.theory.specs.declared.words.Head.TheVariants.{List as AList}
use Rattle.theory.specs.declared.words.StoreFault.{StoreFault}
use Rattle.theory.specs.declared.words.StoreFault.TheVariants.{Full, TooHigh, TooLong}
use Rattle.theory.specs.Limits.{highest, longest}
use Rattle.theory.specs.Outcomes.{◌>>=◌, answered, raised, test, StandsAt}
use Rattle.theory.specs.Trees.{Tree, leaf, node, nil, cons, tree?, parts, height, applies, opens}
use Rattle.theory.specs.Store.{Contents, handle, holds, has_room, with_tree, put_new, put, stored, stored_all, OneHandle, Grown}
use Rattle.theory.specs.Forms.{is_entry}
use Rattle.theory.specs.Folds.{Folded, folded, FoldedAll, folded_all, put_list, rebuild, fold, fold_all}
use Rattle.theory.proofs.Growth.{grown_same, grown-then, grown-put}
use Rattle.theory.proofs.Steps.{never_ok, ok_one, some_one, none_some, bind_ok, raised_ok}

-- Places

at_taken : {A : Type 0} (n : ℕ) (xs : List A) (i : ℕ) (a : A) → StandsAt (take n xs) i a → StandsAt xs i a
at_taken zero xs i a e = none_some a e
at_taken (suc n) [] i a e = none_some a e
at_taken (suc n) (x ∷ xs) zero a e = e
at_taken (suc n) (x ∷ xs) (suc i) a e = at_taken n xs i a e

at_end : {A : Type 0} (xs : List A) (a : A) → StandsAt (xs ++ (a ∷ [])) (length xs) a
at_end [] a = refl
at_end (x ∷ xs) a = at_end xs a

-- what stands at a place stays there
pub stays_at : (c d : Contents) (i : ℕ) (t : Tree) → Grown c d → StandsAt c.trees i t → StandsAt d.trees i t
stays_at c d i t g h = at_taken (length c.trees) d.trees i t (subst (λ ts. StandsAt ts i t) (sym g.front) h)

-- Handles

abbrev pub Held : List Tree → Tree → Type 0
Held m t = (i : ℕ) × StandsAt m i t

pub held_more : (c d : Contents) (t : Tree) → Grown c d → Held c.trees t → Held d.trees t
held_more c d t g h = (h.0, stays_at c d h.0 t g h.1)

-- each of some trees
abbrev pub AllHeld : List Tree → List Tree → Type 0
AllHeld m [] = Unit {0}
AllHeld m (t ∷ ts) = Held m t × AllHeld m ts

pub all_more : (c d : Contents) (ts : List Tree) → Grown c d → AllHeld c.trees ts → AllHeld d.trees ts
all_more c d [] g h = tt
all_more c d (t ∷ ts) g h = (held_more c d t g h.0, all_more c d ts g h.1)

abbrev pub EntriesHeld : List Tree → List Tree → Type 0
EntriesHeld m [] = Unit {0}
EntriesHeld m (t ∷ ts) = (is_entry t ≡ true) × Held m t × EntriesHeld m ts

pub entries_more : (c d : Contents) (ts : List Tree) → Grown c d → EntriesHeld c.trees ts → EntriesHeld d.trees ts
entries_more c d [] g h = tt
entries_more c d (t ∷ ts) g h = (h.0, held_more c d t g h.1, entries_more c d ts g h.2)

-- the handle of a tree that is held is a place where it stands
pub handle-stands : (m : List Tree) (t : Tree) → Held m t → StandsAt m (handle m t) t
handle-stands [] t h = none_some t h.1
handle-stands (u ∷ us) t h = go (tree? u t) h.0 h.1 (handle-stands us t)
  where
    go :
        (d : Dec (u ≡ t)) (i : ℕ) → StandsAt (u ∷ us) i t → (Held us t → StandsAt us (handle us t) t) →
        StandsAt (u ∷ us) (cond (test d) 0 (suc (handle us t))) t
    go (yes e) i k ih = ap {B = Option Tree} some e
    go (no n) zero k ih = absurd (n (some_one u t k))
    go (no n) (suc i) k ih = ih (i, k)

stands_below : (m : List Tree) (t : Tree) → handle m t < length m → StandsAt m (handle m t) t
stands_below [] t e = absurd (omega arith)
stands_below (u ∷ us) t e = go (tree? u t) e (stands_below us t)
  where
    go :
        (d : Dec (u ≡ t)) → cond (test d) 0 (suc (handle us t)) < suc (length us) →
        (handle us t < length us → StandsAt us (handle us t) t) → StandsAt (u ∷ us) (cond (test d) 0 (suc (handle us t))) t
    go (yes p) k ih = ap {B = Option Tree} some p
    go (no n) k ih = ih (omega arith)

pub below : {A : Type 0} (xs : List A) (i : ℕ) (a : A) → StandsAt xs i a → i < length xs
below [] i a e = none_some a e
below (x ∷ xs) zero a e = omega arith
below (x ∷ xs) (suc i) a e = let h : i < length xs = below xs i a e in omega arith

pub read_at : {A : Type 0} (xs : List A) (i : ℕ) (a d : A) → StandsAt xs i a → get_or xs i d ≡ a
read_at [] i a d e = none_some a e
read_at (x ∷ xs) zero a d e = some_one x a e
read_at (x ∷ xs) (suc i) a d e = read_at xs i a d e

-- equal terms have one handle
pub one_place : (m : List Tree) → OneHandle m → (i j : ℕ) (t : Tree) → StandsAt m i t → StandsAt m j t → i ≡ j
one_place m o i j t h k =
    sym (o i (below m i t h)) ∙ ap (handle m) (read_at m i t nil h ∙ sym (read_at m j t nil k)) ∙ o j (below m j t k)

pub one_tree : (m : List Tree) (i : ℕ) (t u : Tree) → StandsAt m i t → StandsAt m i u → t ≡ u
one_tree m i t u h k = some_one t u (sym h ∙ k)

-- Putting

pub record Put (c : Contents) (t : Tree) (r : ℕ × Contents) : Type 0 where
  pub grown : Grown c r.1
  pub stands : StandsAt r.1.trees r.0 t

pub put_ok : (c : Contents) (t : Tree) (r : ℕ × Contents) → put c t ≡ Ok r → Put c t r
unfolding put
put_ok c t r e =
    record {
      grown = subst (λ o. Grown c (answered c o).1) e (grown-put c t);
      stands = held (holds c.trees t) refl e;
    }
  where
    new : (a b : Bool) → cond a (Err TooHigh) (cond b (Err TooLong) (Ok (length c.trees, with_tree c t))) ≡ Ok r → StandsAt r.1.trees r.0 t
    new true b q = never_ok TooHigh r q
    new false true q = never_ok TooLong r q
    new false false q = subst (λ (z : ℕ × Contents). StandsAt z.1.trees z.0 t) (ok_one _ r q) (at_end c.trees t)

    room : (a : Bool) → cond a (cond (ltb highest (height t)) (Err TooHigh) (cond (ltb longest (length (parts t))) (Err TooLong) (Ok (length c.trees, with_tree c t)))) (Err Full) ≡ Ok r → StandsAt r.1.trees r.0 t
    room true q = new (ltb highest (height t)) (ltb longest (length (parts t))) q
    room false q = never_ok Full r q

    held : (a : Bool) → holds c.trees t ≡ a → cond a (Ok (handle c.trees t, c)) (put_new c t) ≡ Ok r → StandsAt r.1.trees r.0 t
    held true h q = subst (λ (z : ℕ × Contents). StandsAt z.1.trees z.0 t) (ok_one _ r q) (stands_below c.trees t (ltb-true _ _ h))
    held false h q = room (has_room c t) q

pub record Stored (c d : Contents) (t : Tree) : Type 0 where
  pub grown : Grown c d
  pub held : Held d.trees t

pub stored_ok : (c d : Contents) (t : Tree) → stored c t ≡ Ok d → Stored c d t
unfolding stored
stored_ok c d t e =
    let a = bind_ok (put c t) (λ r. Ok r.1) d e in
    let p : Put c t a.0 = put_ok c t a.0 a.1 in
    subst (λ x. Stored c x t) (ok_one a.0.1 d a.2) (record { grown = p.grown; held = (a.0.0, p.stands) })

pub stored_all-grown : (ts : List Tree) (c d : Contents) → stored_all c ts ≡ Ok d → Grown c d
unfolding stored_all
stored_all-grown [] c d e = subst (λ x. Grown c x) (ok_one c d e) (grown_same c)
stored_all-grown (t ∷ ts) c d e =
    let a = bind_ok (stored c t) (λ x. stored_all x ts) d e in
    grown-then c a.0 d (stored_ok c a.0 t a.1).grown (stored_all-grown ts a.0 d a.2)

-- Folds

pub list_grown : (b : Bool) (ts : Tree) (c d : Contents) → put_list b ts c ≡ Ok d → Grown c d
list_grown true ts c d e =
    let a = bind_ok (put c (node (AList Arguments) ts)) (λ r. Ok r.1) d e in
    subst (λ x. Grown c x) (ok_one a.0.1 d a.2) (put_ok c (node (AList Arguments) ts) a.0 a.1).grown
list_grown false ts c d e = subst (λ x. Grown c x) (ok_one c d e) (grown_same c)

pub record Rebuilt {S : Type 0} (h : Head) (f g : Folded S) : Type 0 where
  pub grown : Grown f.store g.store
  pub held : Held g.store.trees g.tree
  pub tree_is : g.tree ≡ node h f.tree
  pub state_is : g.state ≡ f.state

pub rebuild_ok : {S : Type 0} (h : Head) (f g : Folded S) → rebuild h f ≡ Ok g → Rebuilt h f g
unfolding rebuild
rebuild_ok {S} h f g e =
    let k : Contents → Result (Folded S) StoreFault = λ c. put c (node h f.tree) >>= λ r. Ok (folded (node h f.tree) f.state r.1) in
    let a = bind_ok (put_list (applies h) f.tree f.store) k g e in
    let b = bind_ok (put a.0 (node h f.tree)) (λ r. Ok (folded (node h f.tree) f.state r.1)) g a.2 in
    let p : Put a.0 (node h f.tree) b.0 = put_ok a.0 (node h f.tree) b.0 b.1 in
    subst (λ x. Rebuilt h f x) (ok_one _ g b.2)
    (record {
      grown = grown-then f.store a.0 b.0.1 (list_grown (applies h) f.tree f.store a.0 a.1) p.grown;
      held = (b.0.0, p.stands);
      tree_is = refl;
      state_is = refl;
    })

module _ {S E : Type 0} (raise : StoreFault → E) (before : Head → Tree → Result (Unit {0}) E) (visit : ℕ → Leaf → S → Contents → Result (Folded S) E) where
  abbrev walk : ℕ → Tree → S → Contents → Result (Folded S) E
  walk = fold raise before visit

  pub record FoldedCons (d : ℕ) (t u : Tree) (s : S) (c : Contents) (g : Folded S) : Type 0 where
    pub first : Folded S
    pub first_ok : walk d t s c ≡ Ok first
    pub second : Folded S
    pub second_ok : walk d u first.state first.store ≡ Ok second
    pub both : folded (cons first.tree second.tree) second.state second.store ≡ g

  pub fold-cons : (d : ℕ) (t u : Tree) (s : S) (c : Contents) (g : Folded S) → walk d (cons t u) s c ≡ Ok g → FoldedCons d t u s c g
  unfolding fold
  fold-cons d t u s c g e =
      let k : Folded S → Folded S → Result (Folded S) E = λ f x. Ok (folded (cons f.tree x.tree) x.state x.store) in
      let a = bind_ok (walk d t s c) (λ f. walk d u f.state f.store >>= k f) g e in
      let b = bind_ok (walk d u a.0.state a.0.store) (k a.0) g a.2 in
      record { first = a.0; first_ok = a.1; second = b.0; second_ok = b.1; both = ok_one (folded (cons a.0.tree b.0.tree) b.0.state b.0.store) g b.2 }

  pub fold-node :
      (d : ℕ) (h : Head) (ts : Tree) (s : S) (c : Contents) (g : Folded S) → walk d (node h ts) s c ≡ Ok g →
      (f : Folded S) × (walk (d + opens h) ts s c ≡ Ok f) × Rebuilt h f g
  unfolding fold
  fold-node d h ts s c g e =
      let a = bind_ok (before h ts) (λ _. walk (d + opens h) ts s c >>= λ f. raised raise (rebuild h f)) g e in
      let b = bind_ok (walk (d + opens h) ts s c) (λ f. raised raise (rebuild h f)) g a.2 in
      (b.0, b.1, rebuild_ok h b.0 g (raised_ok raise (rebuild h b.0) g b.2))

  pub fold-leaf : (d : ℕ) (x : Leaf) (s : S) (c : Contents) (g : Folded S) → walk d (leaf x) s c ≡ Ok g → visit d x s c ≡ Ok g
  unfolding fold
  fold-leaf d x s c g e = e

  pub fold-nil : (d : ℕ) (s : S) (c : Contents) (g : Folded S) → walk d nil s c ≡ Ok g → folded nil s c ≡ g
  unfolding fold
  fold-nil d s c g e = ok_one _ g e

  pub record FoldedMore (t : Tree) (ts : List Tree) (s : S) (c : Contents) (g : FoldedAll S) : Type 0 where
    pub first : Folded S
    pub first_ok : walk 0 t s c ≡ Ok first
    pub second : FoldedAll S
    pub second_ok : fold_all raise before visit ts first.state first.store ≡ Ok second
    pub both : folded_all (first.tree ∷ second.trees) second.state second.store ≡ g

  pub fold_none : (s : S) (c : Contents) (g : FoldedAll S) → fold_all raise before visit [] s c ≡ Ok g → folded_all [] s c ≡ g
  unfolding fold_all
  fold_none s c g e = ok_one _ g e

  pub fold_more : (t : Tree) (ts : List Tree) (s : S) (c : Contents) (g : FoldedAll S) → fold_all raise before visit (t ∷ ts) s c ≡ Ok g → FoldedMore t ts s c g
  unfolding fold_all
  fold_more t ts s c g e =
      let k : Folded S → FoldedAll S → Result (FoldedAll S) E = λ f x. Ok (folded_all (f.tree ∷ x.trees) x.state x.store) in
      let a = bind_ok (walk 0 t s c) (λ f. fold_all raise before visit ts f.state f.store >>= k f) g e in
      let b = bind_ok (fold_all raise before visit ts a.0.state a.0.store) (k a.0) g a.2 in
      record { first = a.0; first_ok = a.1; second = b.0; second_ok = b.1; both = ok_one (folded_all (a.0.tree ∷ b.0.trees) b.0.state b.0.store) g b.2 }

  -- what a visit leaves has only grown, and holds what the leaf became, if it held the leaf
  abbrev pub Visits : Type 0
  Visits = (d : ℕ) (x : Leaf) (s : S) (c : Contents) (f : Folded S) → visit d x s c ≡ Ok f → Grown c f.store × (Held c.trees (leaf x) → Held f.store.trees f.tree)

  pub fold-grown : Visits → (d : ℕ) (t : Tree) (s : S) (c : Contents) (f : Folded S) → walk d t s c ≡ Ok f → Grown c f.store
  fold-grown v d (leaf x) s c g e = (v d x s c g (fold-leaf d x s c g e)).0
  fold-grown v d (node h ts) s c g e =
      let a = fold-node d h ts s c g e in
      grown-then c a.0.store g.store (fold-grown v (d + opens h) ts s c a.0 a.1) a.2.grown
  fold-grown v d nil s c g e = subst (λ (x : Folded S). Grown c x.store) (fold-nil d s c g e) (grown_same c)
  fold-grown v d (cons t u) s c g e =
      let a = fold-cons d t u s c g e in
      subst (λ (x : Folded S). Grown c x.store) a.both
      (grown-then c a.first.store a.second.store (fold-grown v d t s c a.first a.first_ok)
      (fold-grown v d u a.first.state a.first.store a.second a.second_ok))

  -- an entry that is held becomes one that is held
  pub fold-held :
      Visits → (d : ℕ) (t : Tree) (s : S) (c : Contents) (f : Folded S) → walk d t s c ≡ Ok f → is_entry t ≡ true → Held c.trees t →
      Held f.store.trees f.tree
  fold-held v d (leaf x) s c g e y h = (v d x s c g (fold-leaf d x s c g e)).1 h
  fold-held v d (node k ts) s c g e y h = (fold-node d k ts s c g e).2.held
  fold-held v d nil s c g e y h = absurd (mathlib.Core.Bool.true≢false (sym y))
  fold-held v d (cons t u) s c g e y h = absurd (mathlib.Core.Bool.true≢false (sym y))

  pub all_grown : Visits → (ts : List Tree) (s : S) (c : Contents) (g : FoldedAll S) → fold_all raise before visit ts s c ≡ Ok g → Grown c g.store
  all_grown v [] s c g e = subst (λ (x : FoldedAll S). Grown c x.store) (fold_none s c g e) (grown_same c)
  all_grown v (t ∷ ts) s c g e =
      let a = fold_more t ts s c g e in
      subst (λ (x : FoldedAll S). Grown c x.store) a.both
      (grown-then c a.first.store a.second.store (fold-grown v 0 t s c a.first a.first_ok)
      (all_grown v ts a.first.state a.first.store a.second a.second_ok))

  pub all_held :
      Visits → (ts : List Tree) (s : S) (c : Contents) (g : FoldedAll S) → fold_all raise before visit ts s c ≡ Ok g → EntriesHeld c.trees ts →
      AllHeld g.store.trees g.trees
  all_held v [] s c g e h = subst (λ (x : FoldedAll S). AllHeld x.store.trees x.trees) (fold_none s c g e) tt
  all_held v (t ∷ ts) s c g e h =
      let a = fold_more t ts s c g e in
      let f : Grown c a.first.store = fold-grown v 0 t s c a.first a.first_ok in
      let f' : Grown a.first.store a.second.store = all_grown v ts a.first.state a.first.store a.second a.second_ok in
      subst (λ (x : FoldedAll S). AllHeld x.store.trees x.trees) a.both (
        held_more a.first.store a.second.store a.first.tree f' (fold-held v 0 t s c a.first a.first_ok h.0 h.1),
        all_held v ts a.first.state a.first.store a.second a.second_ok (entries_more c a.first.store ts f h.2),
      )
