-- From a pairing to one canonical form: the two tables correspond entry by entry throughout the two walks.
-- A value is walked in two parts: what stands in the part p first, then the rest, in the part q.
use Rattle.std.proofs.Common.{◌≡◌, ℕ, suc, Bool, true, false, cond, ◌&&◌, eqb, ◌⊎◌, ◌↔◌, List, [], ◌∷◌, map, sym, refl, ap, subst, ap₂}
use mathlib.Core.Option.{Option, none, some}
use Rattle.theory.specs.declared.words.Leaf.{Leaf}
use Rattle.theory.specs.declared.words.Leaf.TheVariants.{Canonical}
use Rattle.theory.specs.Outcomes.{test}
use Rattle.theory.specs.Codes.{leaf?}
use Rattle.theory.specs.Trees.{Tree, leaf, node, cons}
use Rattle.theory.specs.Names.{Part, Name, Partners, Carries, kept, swapped, in_node, in_nil, in_cons, OneToOne}
use Rattle.theory.proofs.Numbering.{place, note, after, Moment, sort_of, typed, written, Rooted, first_of, root_in, rooted, eqb_sound, eqb_complete, not_both}

pub record Halves : Type 0 where
  pub first : Tree
  pub rest : Tree

module _ (p q : Part) where
  abbrev pub NameIn : Halves → Leaf → Type 0
  NameIn s a = Name p s.first a ⊎ Name q s.rest a

  -- the names in the order in which the walk meets them
  abbrev pub first_names : Halves → List Leaf
  first_names s = after p s.first []

  abbrev pub names : Halves → List Leaf
  names s = after q s.rest (first_names s)

  -- a pairing, with the forms and classes of two moments
  pub record Renamed (m₁ m₂ : Moment) (s t : Halves) (P : List (Leaf × Leaf)) : Type 0 where
    pub one_to_one : OneToOne (NameIn s) (NameIn t) P
    pub forms : (a b : Leaf) → Partners P a b → m₁.form a ≡ m₂.form b
    pub classes :
        (a b a' b' : Leaf) → Partners P a b → Partners P a' b' → typed (m₁.form a) ≡ true → typed (m₁.form a') ≡ true →
        (m₁.class a ≡ m₁.class a') ↔ (m₂.class b ≡ m₂.class b')
    pub first_carried : Carries P p s.first t.first
    pub rest_carried : Carries P q s.rest t.rest

  -- one canonical form: kinds and trees
  pub record OneForm (m₁ m₂ : Moment) (s t : Halves) : Type 0 where
    pub kinds : map (rooted m₁ (names s)) (names s) ≡ map (rooted m₂ (names t)) (names t)
    pub first : written m₁ p s.first [] ≡ written m₂ p t.first []
    pub rest : written m₁ q s.rest (first_names s) ≡ written m₂ q t.rest (first_names t)

-- two tests that imply each other are equal
tests_agree : (a b : Bool) → (a ≡ true → b ≡ true) → (b ≡ true → a ≡ true) → a ≡ b
tests_agree true b f g = sym (f refl)
tests_agree false true f g = g refl
tests_agree false false f g = refl

-- two tables correspond, entry by entry
abbrev Both : List (Leaf × Leaf) → List Leaf → List Leaf → Type 0
Both P [] [] = Unit {0}
Both P [] (y ∷ ys) = ⊥
Both P (x ∷ xs) [] = ⊥
Both P (x ∷ xs) (y ∷ ys) = Partners P x y × Both P xs ys

module _ (P : List (Leaf × Leaf)) (left_one : (a b b' : Leaf) → Partners P a b → Partners P a b' → b ≡ b')
    (right_one : (a a' b : Leaf) → Partners P a b → Partners P a' b → a ≡ a') where
  same_test : (a b x y : Leaf) → Partners P a b → Partners P x y → test (leaf? a x) ≡ test (leaf? b y)
  same_test a b x y p q = go (leaf? a x) (leaf? b y)
    where
      go : (d : Dec (a ≡ x)) (e : Dec (b ≡ y)) → test d ≡ test e
      go (yes e) (yes f) = refl
      go (yes e) (no n) = absurd (n (left_one a b y p (subst (λ z. Partners P z y) (sym e) q)))
      go (no n) (yes f) = absurd (n (right_one a x b p (subst (λ z. Partners P x z) (sym f) q)))
      go (no n) (no k) = refl

  place_same : (a b : Leaf) (S T : List Leaf) → Partners P a b → Both P S T → place a S ≡ place b T
  place_same a b [] [] p c = refl
  place_same a b [] (y ∷ ys) p c = absurd c
  place_same a b (x ∷ xs) [] p c = absurd c
  place_same a b (x ∷ xs) (y ∷ ys) p c =
      ap₂ (λ s n. cond s 0 (suc n)) (same_test a b x y p c.0) (place_same a b xs ys p c.1)

  note-both : (a b : Leaf) (S T : List Leaf) → Partners P a b → Both P S T → Both P (note a S) (note b T)
  note-both a b [] [] p c = (p, tt)
  note-both a b [] (y ∷ ys) p c = absurd c
  note-both a b (x ∷ xs) [] p c = absurd c
  note-both a b (x ∷ xs) (y ∷ ys) p c =
      let k : Both P (note a xs) (note b ys) = note-both a b xs ys p c.1 in
      subst (λ s. Both P (cond (test (leaf? a x)) (x ∷ xs) (x ∷ note a xs)) (cond s (y ∷ ys) (y ∷ note b ys))) (same_test a b x y p c.0)
      (elim (test (leaf? a x)) as (λ s. Both P (cond s (x ∷ xs) (x ∷ note a xs)) (cond s (y ∷ ys) (y ∷ note b ys))) [ true ↦ c | false ↦ (c.0, k) ])

  module _ (p : Part) where
    after_both : (t u : Tree) (S T : List Leaf) → Carries P p t u → Both P S T → Both P (after p t S) (after p u T)
    after_both t u S T (kept a e) c = rw e c
    after_both t u S T (swapped a b e f q) c = rw (e, f) (note-both a b S T q c)
    after_both t u S T (in_node h t' u' k) c = after_both t' u' S T k c
    after_both t u S T in_nil c = c
    after_both t u S T (in_cons t₁ t₂ u₁ u₂ k l) c = after_both u₁ u₂ (after p t₁ S) (after p t₂ T) l (after_both t₁ t₂ S T k c)

    written_same :
        (m₁ m₂ : Moment) (forms : (a b : Leaf) → Partners P a b → m₁.form a ≡ m₂.form b) (t u : Tree) (S T : List Leaf) →
        Carries P p t u → Both P S T → written m₁ p t S ≡ written m₂ p u T
    written_same m₁ m₂ forms t u S T (kept a e) c = rw e
    written_same m₁ m₂ forms t u S T (swapped a b e f q) c =
        rw (e, f) (ap₂ (λ k n. leaf (Canonical (sort_of k) n)) (forms a b q) (place_same a b S T q c))
    written_same m₁ m₂ forms t u S T (in_node h t' u' k) c = ap (λ (x : Tree). node h x) (written_same m₁ m₂ forms t' u' S T k c)
    written_same m₁ m₂ forms t u S T in_nil c = refl
    written_same m₁ m₂ forms t u S T (in_cons t₁ t₂ u₁ u₂ k l) c =
        ap₂ (λ (x y : Tree). cons x y) (written_same m₁ m₂ forms t₁ t₂ S T k c)
        (written_same m₁ m₂ forms u₁ u₂ (after p t₁ S) (after p t₂ T) l (after_both t₁ t₂ S T k c))

-- the kinds of corresponding tables are equal
module _ (P : List (Leaf × Leaf)) (m₁ m₂ : Moment) (forms : (a b : Leaf) → Partners P a b → m₁.form a ≡ m₂.form b)
    (classes :
    (a b a' b' : Leaf) → Partners P a b → Partners P a' b' → typed (m₁.form a) ≡ true → typed (m₁.form a') ≡ true →
    (m₁.class a ≡ m₁.class a') ↔ (m₂.class b ≡ m₂.class b')) where
  class_test :
      (a b x y : Leaf) → Partners P a b → Partners P x y → typed (m₁.form a) ≡ true →
      (typed (m₁.form x) && eqb (m₁.class x) (m₁.class a)) ≡ (typed (m₂.form y) && eqb (m₂.class y) (m₂.class b))
  class_test a b x y p q e = go (typed (m₁.form x)) (typed (m₂.form y)) refl (ap typed (forms x y q))
    where
      go :
          (s s' : Bool) → typed (m₁.form x) ≡ s → typed (m₁.form x) ≡ s' →
          (s && eqb (m₁.class x) (m₁.class a)) ≡ (s' && eqb (m₂.class y) (m₂.class b))
      go true true f f' =
          tests_agree (eqb (m₁.class x) (m₁.class a)) (eqb (m₂.class y) (m₂.class b))
          (λ h. eqb_complete (m₂.class y) (m₂.class b) ((classes x y a b q p f e).0 (eqb_sound (m₁.class x) (m₁.class a) h)))
          (λ h. eqb_complete (m₁.class x) (m₁.class a) ((classes x y a b q p f e).1 (eqb_sound (m₂.class y) (m₂.class b) h)))
      go true false f f' = not_both (typed (m₁.form x)) f f'
      go false true f f' = not_both (typed (m₁.form x)) f' f
      go false false f f' = refl

  first_same :
      (a b : Leaf) (S T : List Leaf) → Partners P a b → typed (m₁.form a) ≡ true → Both P S T →
      first_of m₁ (m₁.class a) S ≡ first_of m₂ (m₂.class b) T
  first_same a b [] [] p e c = refl
  first_same a b [] (y ∷ ys) p e c = absurd c
  first_same a b (x ∷ xs) [] p e c = absurd c
  first_same a b (x ∷ xs) (y ∷ ys) p e c = ap₂ (λ s n. cond s 0 (suc n)) (class_test a b x y p c.0 e) (first_same a b xs ys p e c.1)

  root_same : (a b : Leaf) (S T : List Leaf) → Partners P a b → Both P S T → root_in m₁ S a ≡ root_in m₂ T b
  root_same a b S T p c =
      subst (λ s. root_in m₁ S a ≡ cond s (some (first_of m₂ (m₂.class b) T)) none) (ap typed (forms a b p)) (go (typed (m₁.form a)) refl)
    where
      go :
          (s : Bool) → typed (m₁.form a) ≡ s →
          cond s (some (first_of m₁ (m₁.class a) S)) none ≡ cond s (some (first_of m₂ (m₂.class b) T)) none
      go true e = ap {B = Option ℕ} some (first_same a b S T p e c)
      go false e = refl

  kinds_same : (S T xs ys : List Leaf) → Both P S T → Both P xs ys → map (rooted m₁ S) xs ≡ map (rooted m₂ T) ys
  kinds_same S T [] [] c d = refl
  kinds_same S T [] (y ∷ ys) c d = absurd d
  kinds_same S T (x ∷ xs) [] c d = absurd d
  kinds_same S T (x ∷ xs) (y ∷ ys) c d =
      ap₂ {C = List Rooted} ◌∷◌ (λ i. record { form = forms x y d.0 i; sub_root = root_same x y S T d.0 c i }) (kinds_same S T xs ys c d.1)

pub one_form : (p q : Part) (m₁ m₂ : Moment) (s t : Halves) (P : List (Leaf × Leaf)) → Renamed p q m₁ m₂ s t P → OneForm p q m₁ m₂ s t
one_form p q m₁ m₂ s t P D =
    let l = D.one_to_one.left_one in
    let r = D.one_to_one.right_one in
    let first : Both P (first_names p q s) (first_names p q t) = after_both P l r p s.first t.first [] [] D.first_carried tt in
    let all : Both P (names p q s) (names p q t) = after_both P l r q s.rest t.rest _ _ D.rest_carried first in
    record {
      kinds = kinds_same P m₁ m₂ D.forms D.classes _ _ _ _ all all;
      first = written_same P l r p m₁ m₂ D.forms s.first t.first [] [] D.first_carried tt;
      rest = written_same P l r q m₁ m₂ D.forms s.rest t.rest _ _ D.rest_carried first;
    }
