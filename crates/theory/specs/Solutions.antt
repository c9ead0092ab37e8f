-- Assignments, terms that are equal under an assignment, and the assignments that satisfy a log.
-- Nothing here speaks of the steps of a call.
use Rattle.std.specs.Prelude.{◌≡◌, ℕ, Bool, true, false, [], ◌∷◌}
use Rattle.theory.specs.declared.words.ArgSort.{ArgSort}
use Rattle.theory.specs.declared.words.ArgSort.TheVariants.{Ty as ty, Region as region, Const as const}
use Rattle.theory.specs.declared.words.VarSort.{VarSort}
use Rattle.theory.specs.declared.words.VarSort.TheVariants.{Ty as v_ty, Int as v_int, Float as v_float, Const as v_const}
use Rattle.theory.specs.declared.words.Sort.TheVariants.{Argument}
use Rattle.theory.specs.declared.words.Leaf.{Leaf}
use Rattle.theory.specs.declared.words.Leaf.TheVariants.{Variable, RegionVariable, Parameter, LateParameter, Placeholder, Bound, Canonical, Error, Static, Erased, Kind as AKind}
use Rattle.theory.specs.declared.words.Head.{Head}
use Rattle.theory.specs.Trees.{Tree, leaf, node, nil, cons}
use Rattle.theory.specs.Forms.{Formed, any, is_variable, is_integer, is_floating}
use Rattle.theory.specs.Log.{Event, opened, made, binds, lowered, joins, equates, outlived, hidden, duplicate, Log}

-- a term of a variable's sort
abbrev pub OfSort : VarSort → Tree → Bool
OfSort v_ty t = Formed (Argument ty) t
OfSort v_int t = is_integer t
OfSort v_float t = is_floating t
OfSort v_const t = Formed (Argument const) t

-- each variable but regions, made or not, gets a finite variable-free term of its sort, and each region not of bound form a number
pub record Assignment : Type 0 where
  pub term : VarSort → ℕ → Tree
  pub free : (s : VarSort) (n : ℕ) → any is_variable (term s n) ≡ false
  pub sorted : (s : VarSort) (n : ℕ) → OfSort s (term s n) ≡ true
  pub region : Leaf → ℕ

-- a term with its variables replaced and its regions numbered
pub data Ground : Type 0 where
  number : ℕ → Ground
  atom : Leaf → Ground
  built : Head → Ground → Ground
  empty : Ground
  listed : Ground → Ground → Ground

abbrev pub by_sort : (Leaf → ℕ) → ArgSort → Leaf → Ground
by_sort f ty x = atom x
by_sort f region x = number (f x)
by_sort f const x = atom x

-- a region not of bound form by its number, any other leaf as it is
abbrev pub leaf_shown : (Leaf → ℕ) → Leaf → Ground
leaf_shown f (Variable s n) = atom (Variable s n)
leaf_shown f (RegionVariable n) = number (f (RegionVariable n))
leaf_shown f (Parameter a n) = by_sort f a (Parameter a n)
leaf_shown f (LateParameter n) = number (f (LateParameter n))
leaf_shown f (Placeholder a u n) = by_sort f a (Placeholder a u n)
leaf_shown f (Bound a d n) = atom (Bound a d n)
leaf_shown f (Canonical a n) = by_sort f a (Canonical a n)
leaf_shown f (Error a) = by_sort f a (Error a)
leaf_shown f Static = number (f Static)
leaf_shown f Erased = number (f Erased)
leaf_shown f (AKind k) = atom (AKind k)

abbrev pub shown : (Leaf → ℕ) → Tree → Ground
shown f (leaf x) = leaf_shown f x
shown f (node h ts) = built h (shown f ts)
shown f nil = empty
shown f (cons t u) = listed (shown f t) (shown f u)

abbrev pub replaced : Assignment → Tree → Tree
replaced A (leaf (Variable s n)) = A.term s n
replaced A (leaf (RegionVariable n)) = leaf (RegionVariable n)
replaced A (leaf (Parameter a n)) = leaf (Parameter a n)
replaced A (leaf (LateParameter n)) = leaf (LateParameter n)
replaced A (leaf (Placeholder a u n)) = leaf (Placeholder a u n)
replaced A (leaf (Bound a d n)) = leaf (Bound a d n)
replaced A (leaf (Canonical a n)) = leaf (Canonical a n)
replaced A (leaf (Error a)) = leaf (Error a)
replaced A (leaf Static) = leaf Static
replaced A (leaf Erased) = leaf Erased
replaced A (leaf (AKind k)) = leaf (AKind k)
replaced A (node h ts) = node h (replaced A ts)
replaced A nil = nil
replaced A (cons t u) = cons (replaced A t) (replaced A u)

-- two terms are equal under an assignment: variables replaced, they agree, regions not of bound form by number
abbrev pub Agree : Assignment → Tree → Tree → Type 0
Agree A s t = shown A.region (replaced A s) ≡ shown A.region (replaced A t)

-- a binding holds, a recorded region equality holds; no other event asks anything
abbrev pub Holds : Assignment → Event → Type 0
Holds A opened = Unit {0}
Holds A (made m u) = Unit {0}
Holds A (binds x t) = Agree A (leaf x) t
Holds A (lowered x u) = Unit {0}
Holds A (joins a b) = Unit {0}
Holds A (equates v x y) = Agree A (leaf x) (leaf y)
Holds A (outlived v s t) = Unit {0}
Holds A (hidden k t) = Unit {0}
Holds A (duplicate k t) = Unit {0}

abbrev pub Satisfies : Assignment → Log → Type 0
Satisfies A [] = Unit {0}
Satisfies A (e ∷ l) = Holds A e × Satisfies A l
