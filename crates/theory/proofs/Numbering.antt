-- The canonical form of a tree, apart from any store: each name is replaced by its number in a table, which grows in the order
-- of the walk. What stands in a table, and what noting a leaf and walking a tree change.
use Rattle.std.proofs.Common.{◌≡◌, ℕ, zero, suc, Bool, true, false, cond, ◌&&◌, T, eqb, ◌⊎◌, List, [], ◌∷◌, ◌++◌, map, sym, refl, ap, ◌∙◌, subst, ap₂, inl, inr, true≢false, eqb-true}
use mathlib.Core.Option.{Option, none, some}
use lib.Dec.{eqb_refl}
use Rattle.theory.specs.declared.words.ArgSort.{ArgSort}
use Rattle.theory.specs.declared.words.ArgSort.TheVariants.{Ty as ty}
use Rattle.theory.specs.declared.words.Leaf.{Leaf}
use Rattle.theory.specs.declared.words.Leaf.TheVariants.{Canonical}
use Rattle.theory.specs.Outcomes.{test}
use Rattle.theory.specs.Codes.{leaf?}
use Rattle.theory.specs.Trees.{Tree, leaf, node, nil, cons}
use Rattle.theory.specs.Names.{Part, Form, a_type, a_region, a_constant, an_integer, a_float, own_placeholder, a_placeholder, form_sort, is_name, Name}

-- Numbers

-- the number of a leaf in a table: the first place where it stands, or the next number
abbrev pub place : Leaf → List Leaf → ℕ
place a [] = 0
place a (x ∷ xs) = cond (test (leaf? a x)) 0 (suc (place a xs))

-- the table once the leaf is noted: appended, unless it stands there
abbrev pub note : Leaf → List Leaf → List Leaf
note a [] = a ∷ []
note a (x ∷ xs) = cond (test (leaf? a x)) (x ∷ xs) (x ∷ note a xs)

-- the table after the walk of a tree
abbrev pub after : Part → Tree → List Leaf → List Leaf
after p (leaf a) T = cond (is_name p a) (note a T) T
after p (node h t) T = after p t T
after p nil T = T
after p (cons t u) T = after p u (after p t T)

-- What a moment says of a leaf: the form of its kind, and the root of its sub class, which counts where the form is a type
-- variable's.
pub record Moment : Type 0 where
  pub form : Leaf → Option Form
  pub class : Leaf → ℕ

abbrev pub sort_of : Option Form → ArgSort
sort_of none = ty
sort_of (some f) = form_sort f

abbrev pub type_form : Form → Bool
type_form (a_type u) = true
type_form (a_region u) = false
type_form (a_constant u) = false
type_form an_integer = false
type_form a_float = false
type_form (own_placeholder a) = false
type_form (a_placeholder a u n) = false

abbrev pub typed : Option Form → Bool
typed none = false
typed (some f) = type_form f

-- the tree that the walk writes
abbrev pub written : Moment → Part → Tree → List Leaf → Tree
written m p (leaf a) T = cond (is_name p a) (leaf (Canonical (sort_of (m.form a)) (place a T))) (leaf a)
written m p (node h t) T = node h (written m p t T)
written m p nil T = nil
written m p (cons t u) T = cons (written m p t T) (written m p u (after p t T))

-- Kinds: a form, and the sub root of a type variable

pub record Rooted : Type 0 where
  pub form : Option Form
  pub sub_root : Option ℕ

-- the first listed number of a sub class
abbrev pub first_of : Moment → ℕ → List Leaf → ℕ
first_of m c [] = 0
first_of m c (x ∷ xs) = cond (typed (m.form x) && eqb (m.class x) c) 0 (suc (first_of m c xs))

abbrev pub root_in : Moment → List Leaf → Leaf → Option ℕ
root_in m T a = cond (typed (m.form a)) (some (first_of m (m.class a) T)) none

abbrev pub rooted : Moment → List Leaf → Leaf → Rooted
rooted m T a = record { form = m.form a; sub_root = root_in m T a }

T→true : (b : Bool) → T b → b ≡ true
T→true true h = refl
T→true false h = absurd h

pub eqb_sound : (m n : ℕ) → eqb m n ≡ true → m ≡ n
eqb_sound m n e = eqb-true m n e

pub eqb_complete : (m n : ℕ) → m ≡ n → eqb m n ≡ true
eqb_complete m n e = T→true (eqb m n) (subst (λ k. T (eqb m k)) e (eqb_refl m))

-- the leaf a stands at the number i
abbrev pub At : List Leaf → ℕ → Leaf → Type 0
At [] i a = ⊥
At (x ∷ xs) zero a = a ≡ x
At (x ∷ xs) (suc i) a = At xs i a

-- the kinds of a longer table are those of the table, and one more
module _ (m : Moment) where
  first_more :
      (a x : Leaf) (T : List Leaf) (i : ℕ) → At T i x → typed (m.form x) ≡ true →
      first_of m (m.class x) (T ++ (a ∷ [])) ≡ first_of m (m.class x) T
  first_more a x [] i h e = elim h [ ]
  first_more a x (y ∷ ys) zero h e =
      let f : typed (m.form y) ≡ true = subst (λ z. typed (m.form z) ≡ true) h e in
      rw (f, eqb_complete (m.class y) (m.class x) (ap (λ z. m.class z) (sym h)))
  first_more a x (y ∷ ys) (suc i) h e =
      ap (λ n. cond (typed (m.form y) && eqb (m.class y) (m.class x)) 0 (suc n)) (first_more a x ys i h e)

  rooted_more : (a x : Leaf) (T : List Leaf) (i : ℕ) → At T i x → rooted m (T ++ (a ∷ [])) x ≡ rooted m T x
  rooted_more a x T i h = go (typed (m.form x)) refl
    where
      go :
          (s : Bool) → typed (m.form x) ≡ s →
          ◌≡◌ {A = Rooted}
          (record { form = m.form x; sub_root = cond s (some (first_of m (m.class x) (T ++ (a ∷ [])))) none })
          (record { form = m.form x; sub_root = cond s (some (first_of m (m.class x) T)) none })
      go true e = λ j. record { form = m.form x; sub_root = some (first_more a x T i h e j) }
      go false e = refl

  pub kinds_more :
      (a : Leaf) (T S : List Leaf) → ((i : ℕ) (x : Leaf) → At S i x → (j : ℕ) × At T j x) →
      map (rooted m (T ++ (a ∷ []))) (S ++ (a ∷ [])) ≡ map (rooted m T) S ++ (rooted m (T ++ (a ∷ [])) a ∷ [])
  kinds_more a T [] f = refl
  kinds_more a T (x ∷ xs) f =
      let r : (j : ℕ) × At T j x = f 0 x refl in
      ap₂ {C = List Rooted} ◌∷◌ (rooted_more a x T r.0 r.1) (kinds_more a T xs (λ i y h. f (suc i) y h))

-- Tables

abbrev pub Absent : Leaf → List Leaf → Type 0
Absent x xs = (i : ℕ) → At xs i x → ⊥

abbrev pub Distinct : List Leaf → Type 0
Distinct [] = Unit {0}
Distinct (x ∷ xs) = Absent x xs × Distinct xs

-- one leaf at a number
pub at_leaf : (T : List Leaf) (i : ℕ) (a b : Leaf) → At T i a → At T i b → a ≡ b
at_leaf [] i a b h k = elim h [ ]
at_leaf (x ∷ xs) zero a b h k = h ∙ sym k
at_leaf (x ∷ xs) (suc i) a b h k = at_leaf xs i a b h k

-- one number of a leaf
pub at-number : (T : List Leaf) (i j : ℕ) (a : Leaf) → Distinct T → At T i a → At T j a → i ≡ j
at-number [] i j a d h k = elim h [ ]
at-number (x ∷ xs) zero zero a d h k = refl
at-number (x ∷ xs) zero (suc j) a d h k = absurd (d.0 j (subst (λ y. At xs j y) h k))
at-number (x ∷ xs) (suc i) zero a d h k = absurd (d.0 i (subst (λ y. At xs i y) k h))
at-number (x ∷ xs) (suc i) (suc j) a d h k = ap suc (at-number xs i j a d.1 h k)

pub not_both : {A : Type 0} (b : Bool) → b ≡ true → b ≡ false → A
not_both b p q = absurd (true≢false (sym p ∙ q))

-- Noting a leaf

pub noted : (a : Leaf) (T : List Leaf) → At (note a T) (place a T) a
noted a [] = refl
noted a (x ∷ xs) = go (leaf? a x) (noted a xs)
  where
    go : (d : Dec (a ≡ x)) → At (note a xs) (place a xs) a → At (cond (test d) (x ∷ xs) (x ∷ note a xs)) (cond (test d) 0 (suc (place a xs))) a
    go (yes e) h = e
    go (no n) h = h

pub note_keeps : (a : Leaf) (T : List Leaf) (i : ℕ) (b : Leaf) → At T i b → At (note a T) i b
note_keeps a [] i b h = elim h [ ]
note_keeps a (x ∷ xs) zero b h =
    elim (test (leaf? a x)) as (λ s. At (cond s (x ∷ xs) (x ∷ note a xs)) 0 b) [ true ↦ h | false ↦ h ]
note_keeps a (x ∷ xs) (suc i) b h =
    let k : At (note a xs) i b = note_keeps a xs i b h in
    elim (test (leaf? a x)) as (λ s. At (cond s (x ∷ xs) (x ∷ note a xs)) (suc i) b) [ true ↦ h | false ↦ k ]

note-back : (a : Leaf) (T : List Leaf) (i : ℕ) (b : Leaf) → At (note a T) i b → (b ≡ a) ⊎ At T i b
note-back a [] zero b h = inl h
note-back a [] (suc i) b h = elim h [ ]
note-back a (x ∷ xs) i b h = go (test (leaf? a x)) i h (λ j. note-back a xs j b)
  where
    go :
        (s : Bool) (i : ℕ) → At (cond s (x ∷ xs) (x ∷ note a xs)) i b →
        ((j : ℕ) → At (note a xs) j b → (b ≡ a) ⊎ At xs j b) →
        (b ≡ a) ⊎ At (x ∷ xs) i b
    go true i k ih = inr k
    go false zero k ih = inr k
    go false (suc i) k ih = ih i k

note-absent : (a x : Leaf) (T : List Leaf) → (a ≡ x → ⊥) → Absent x T → Absent x (note a T)
note-absent a x T e n i h = go (note-back a T i x h)
  where
    go : (x ≡ a) ⊎ At T i x → ⊥
    go (inl p) = e (sym p)
    go (inr k) = n i k

note-distinct : (a : Leaf) (T : List Leaf) → Distinct T → Distinct (note a T)
note-distinct a [] d = (λ i h. elim h [ ], tt)
note-distinct a (x ∷ xs) d = go (leaf? a x) (note-distinct a xs d.1)
  where
    go : (s : Dec (a ≡ x)) → Distinct (note a xs) → Distinct (cond (test s) (x ∷ xs) (x ∷ note a xs))
    go (yes e) k = d
    go (no n) k = (note-absent a x xs n d.0, k)

-- Walking a tree

module _ (p : Part) where
  pub after_keeps : (t : Tree) (T : List Leaf) (i : ℕ) (a : Leaf) → At T i a → At (after p t T) i a
  after_keeps (leaf b) T i a h =
      let k : At (note b T) i a = note_keeps b T i a h in
      elim (is_name p b) as (λ s. At (cond s (note b T) T) i a) [ true ↦ k | false ↦ h ]
  after_keeps (node h t) T i a k = after_keeps t T i a k
  after_keeps nil T i a h = h
  after_keeps (cons t u) T i a h = after_keeps u (after p t T) i a (after_keeps t T i a h)

  pub after_distinct : (t : Tree) (T : List Leaf) → Distinct T → Distinct (after p t T)
  after_distinct (leaf b) T d =
      let k : Distinct (note b T) = note-distinct b T d in
      elim (is_name p b) as (λ s. Distinct (cond s (note b T) T)) [ true ↦ k | false ↦ d ]
  after_distinct (node h t) T d = after_distinct t T d
  after_distinct nil T d = d
  after_distinct (cons t u) T d = after_distinct u (after p t T) (after_distinct t T d)

  -- what stands in the table after a walk stood there before, or is a name of the tree
  pub after_back : (t : Tree) (T : List Leaf) (i : ℕ) (a : Leaf) → At (after p t T) i a → Name p t a ⊎ At T i a
  after_back (leaf b) T i a h = go (is_name p b) refl h
    where
      back : is_name p b ≡ true → (a ≡ b) ⊎ At T i a → ((is_name p b ≡ true) × (a ≡ b)) ⊎ At T i a
      back e (inl q) = inl (e, q)
      back e (inr k) = inr k

      go : (s : Bool) → is_name p b ≡ s → At (cond s (note b T) T) i a → ((is_name p b ≡ true) × (a ≡ b)) ⊎ At T i a
      go true e k = back e (note-back b T i a k)
      go false e k = inr k
  after_back (node h t) T i a k = after_back t T i a k
  after_back nil T i a h = inr h
  after_back (cons t u) T i a h = go (after_back u (after p t T) i a h) (after_back t T i a)
    where
      first : Name p t a ⊎ At T i a → Name p (cons t u) a ⊎ At T i a
      first (inl n) = inl (inl n)
      first (inr k) = inr k

      go :
          Name p u a ⊎ At (after p t T) i a → (At (after p t T) i a → Name p t a ⊎ At T i a) →
          Name p (cons t u) a ⊎ At T i a
      go (inl n) ih = inl (inr n)
      go (inr k) ih = first (ih k)
