-- Leaves and heads as numbers: a tag and two numbers. A leaf or a head is read back from its code, so that their
-- equality is decided.
use Rattle.std.specs.Prelude.{◌≡◌, ℕ, true, false, [], ◌∷◌, slice_index_or, refl}
use Rattle.std.proofs.Common.{sym, ap, ◌∙◌}
use Rattle.std.proofs.Math.Decide.{ℕ_discrete}
use Rattle.theory.specs.declared.words.ArgSort.TheVariants.{Ty as ty, Region as region, Const as const}
use Rattle.theory.specs.declared.words.VarSort.TheVariants.{Ty as v_ty, Int as v_int, Float as v_float, Const as v_const}
use Rattle.theory.specs.declared.words.ListSort.TheVariants.{Arguments, Environment, OpaquePairs, Goals, Constraints, Kinds}
use Rattle.theory.specs.declared.words.Kind.TheVariants.{Ty as k_ty, Int as k_int, Float as k_float, Region as k_region, Const as k_const, Placeholder as k_placeholder}
use Rattle.theory.specs.declared.words.Leaf.{Leaf}
use Rattle.theory.specs.declared.words.Leaf.TheVariants.{Variable, RegionVariable, Parameter, LateParameter, Placeholder, Bound, Canonical, Error, Static, Erased, Kind as AKind}
use Rattle.theory.specs.declared.words.Head.{Head}
use Rattle.theory.specs.declared.words.Head.TheVariants.{Constructor, Alias, Function, Unevaluated, Value, Predicate, OpaquePair, Goal, Outlives, Equal, List}

-- a leaf or a head as numbers
pub record Code : Type 0 where
  pub tag : ℕ
  pub one : ℕ
  pub two : ℕ

abbrev pub coded : ℕ → ℕ → ℕ → Code
coded t x y = record { tag = t; one = x; two = y }

abbrev pub leaf_code : Leaf → Code
leaf_code (Variable v_ty n) = coded 0 n 0
leaf_code (Variable v_int n) = coded 1 n 0
leaf_code (Variable v_float n) = coded 2 n 0
leaf_code (Variable v_const n) = coded 3 n 0
leaf_code (RegionVariable n) = coded 4 n 0
leaf_code (Parameter ty n) = coded 5 n 0
leaf_code (Parameter region n) = coded 6 n 0
leaf_code (Parameter const n) = coded 7 n 0
leaf_code (LateParameter n) = coded 8 n 0
leaf_code (Placeholder ty u n) = coded 9 u n
leaf_code (Placeholder region u n) = coded 10 u n
leaf_code (Placeholder const u n) = coded 11 u n
leaf_code (Bound ty d n) = coded 12 d n
leaf_code (Bound region d n) = coded 13 d n
leaf_code (Bound const d n) = coded 14 d n
leaf_code (Canonical ty n) = coded 15 n 0
leaf_code (Canonical region n) = coded 16 n 0
leaf_code (Canonical const n) = coded 17 n 0
leaf_code (Error ty) = coded 18 0 0
leaf_code (Error region) = coded 19 0 0
leaf_code (Error const) = coded 20 0 0
leaf_code Static = coded 21 0 0
leaf_code Erased = coded 22 0 0
leaf_code (AKind (k_ty u r)) = coded 23 u r
leaf_code (AKind k_int) = coded 24 0 0
leaf_code (AKind k_float) = coded 25 0 0
leaf_code (AKind (k_region u)) = coded 26 u 0
leaf_code (AKind (k_const u)) = coded 27 u 0
leaf_code (AKind (k_placeholder ty u n)) = coded 28 u n
leaf_code (AKind (k_placeholder region u n)) = coded 29 u n
leaf_code (AKind (k_placeholder const u n)) = coded 30 u n

-- the leaf with a tag and two numbers
abbrev pub leaf_from : ℕ → ℕ → ℕ → Leaf
leaf_from t x y =
    slice_index_or
    (Variable v_ty x
    ∷ Variable v_int x
    ∷ Variable v_float x
    ∷ Variable v_const x
    ∷ RegionVariable x
    ∷ Parameter ty x
    ∷ Parameter region x
    ∷ Parameter const x
    ∷ LateParameter x
    ∷ Placeholder ty x y
    ∷ Placeholder region x y
    ∷ Placeholder const x y
    ∷ Bound ty x y
    ∷ Bound region x y
    ∷ Bound const x y
    ∷ Canonical ty x
    ∷ Canonical region x
    ∷ Canonical const x
    ∷ Error ty
    ∷ Error region
    ∷ Error const
    ∷ Static
    ∷ Erased
    ∷ AKind (k_ty x y)
    ∷ AKind k_int
    ∷ AKind k_float
    ∷ AKind (k_region x)
    ∷ AKind (k_const x)
    ∷ AKind (k_placeholder ty x y)
    ∷ AKind (k_placeholder region x y)
    ∷ AKind (k_placeholder const x y)
    ∷ [])
    t
    Static

abbrev pub leaf_read : Code → Leaf
leaf_read c = leaf_from c.tag c.one c.two

pub leaf_back : (x : Leaf) → leaf_read (leaf_code x) ≡ x
leaf_back (Variable v_ty n) = refl
leaf_back (Variable v_int n) = refl
leaf_back (Variable v_float n) = refl
leaf_back (Variable v_const n) = refl
leaf_back (RegionVariable n) = refl
leaf_back (Parameter ty n) = refl
leaf_back (Parameter region n) = refl
leaf_back (Parameter const n) = refl
leaf_back (LateParameter n) = refl
leaf_back (Placeholder ty u n) = refl
leaf_back (Placeholder region u n) = refl
leaf_back (Placeholder const u n) = refl
leaf_back (Bound ty d n) = refl
leaf_back (Bound region d n) = refl
leaf_back (Bound const d n) = refl
leaf_back (Canonical ty n) = refl
leaf_back (Canonical region n) = refl
leaf_back (Canonical const n) = refl
leaf_back (Error ty) = refl
leaf_back (Error region) = refl
leaf_back (Error const) = refl
leaf_back Static = refl
leaf_back Erased = refl
leaf_back (AKind (k_ty u r)) = refl
leaf_back (AKind k_int) = refl
leaf_back (AKind k_float) = refl
leaf_back (AKind (k_region u)) = refl
leaf_back (AKind (k_const u)) = refl
leaf_back (AKind (k_placeholder ty u n)) = refl
leaf_back (AKind (k_placeholder region u n)) = refl
leaf_back (AKind (k_placeholder const u n)) = refl

abbrev pub head_code : Head → Code
head_code (Constructor n) = coded 0 n 0
head_code (Alias n) = coded 1 n 0
head_code (Function n) = coded 2 n 0
head_code (Unevaluated n) = coded 3 n 0
head_code (Value n) = coded 4 n 0
head_code (Predicate n c) = coded 5 n c
head_code OpaquePair = coded 6 0 0
head_code Goal = coded 7 0 0
head_code (Outlives true) = coded 8 0 0
head_code (Outlives false) = coded 9 0 0
head_code (Equal true) = coded 10 0 0
head_code (Equal false) = coded 11 0 0
head_code (List Arguments) = coded 12 0 0
head_code (List Environment) = coded 13 0 0
head_code (List OpaquePairs) = coded 14 0 0
head_code (List Goals) = coded 15 0 0
head_code (List Constraints) = coded 16 0 0
head_code (List Kinds) = coded 17 0 0

-- the head with a tag and two numbers
abbrev pub head_from : ℕ → ℕ → ℕ → Head
head_from t x y =
    slice_index_or
    (Constructor x
    ∷ Alias x
    ∷ Function x
    ∷ Unevaluated x
    ∷ Value x
    ∷ Predicate x y
    ∷ OpaquePair
    ∷ Goal
    ∷ Outlives true
    ∷ Outlives false
    ∷ Equal true
    ∷ Equal false
    ∷ List Arguments
    ∷ List Environment
    ∷ List OpaquePairs
    ∷ List Goals
    ∷ List Constraints
    ∷ List Kinds
    ∷ [])
    t
    Goal

abbrev pub head_read : Code → Head
head_read c = head_from c.tag c.one c.two

pub head_back : (x : Head) → head_read (head_code x) ≡ x
head_back (Constructor n) = refl
head_back (Alias n) = refl
head_back (Function n) = refl
head_back (Unevaluated n) = refl
head_back (Value n) = refl
head_back (Predicate n c) = refl
head_back OpaquePair = refl
head_back Goal = refl
head_back (Outlives true) = refl
head_back (Outlives false) = refl
head_back (Equal true) = refl
head_back (Equal false) = refl
head_back (List Arguments) = refl
head_back (List Environment) = refl
head_back (List OpaquePairs) = refl
head_back (List Goals) = refl
head_back (List Constraints) = refl
head_back (List Kinds) = refl

-- What is read back from a code is known by its code.

abbrev pub code_if : (c d : Code) → Dec (c.tag ≡ d.tag) → Dec (c.one ≡ d.one) → Dec (c.two ≡ d.two) → Dec (c ≡ d)
code_if c d (yes t) (yes x) (yes y) = yes (ap (λ k. coded k c.one c.two) t ∙ ap (λ k. coded d.tag k c.two) x ∙ ap (λ k. coded d.tag d.one k) y)
code_if c d (yes t) (yes x) (no n) = no (λ e. n (ap (λ z. z.two) e))
code_if c d (yes t) (no n) y = no (λ e. n (ap (λ z. z.one) e))
code_if c d (no n) x y = no (λ e. n (ap (λ z. z.tag) e))

unfoldable pub code? : Discrete Code
code? c d = code_if c d (ℕ_discrete c.tag d.tag) (ℕ_discrete c.one d.one) (ℕ_discrete c.two d.two)

abbrev pub read_if : {A : Type 0} (code : A → Code) (read : Code → A) → ((x : A) → read (code x) ≡ x) → (x y : A) → Dec (code x ≡ code y) → Dec (x ≡ y)
read_if code read back x y (yes e) = yes (sym (back x) ∙ ap read e ∙ back y)
read_if code read back x y (no n) = no (λ e. n (ap code e))

unfoldable pub leaf? : Discrete Leaf
leaf? x y = read_if leaf_code leaf_read leaf_back x y (code? (leaf_code x) (leaf_code y))

unfoldable pub head? : Discrete Head
head? x y = read_if head_code head_read head_back x y (code? (head_code x) (head_code y))
