-- Terms by their form: which trees are well formed and of which sort, which leaves occur in a tree, which trees are integer or
-- float types, and what a kind says of its canonical variable.
use Rattle.std.specs.Prelude.{Some, ℕ, suc, Bool, true, false, cond, ◌&&◌, ◌||◌, List, [], ◌∷◌, ◌++◌, length, nat_le}
use Rattle.std.proofs.Math.Option.{Option, none, some}
use Rattle.theory.specs.declared.words.ArgSort.{ArgSort}
use Rattle.theory.specs.declared.words.ArgSort.TheVariants.{Ty as ty, Region as region, Const as const}
use Rattle.theory.specs.declared.words.VarSort.TheVariants.{Ty as v_ty, Int as v_int, Float as v_float, Const as v_const}
use Rattle.theory.specs.declared.words.VariableSort.{VariableSort}
use Rattle.theory.specs.declared.words.VariableSort.TheVariants.{Ty as a_ty, Int as an_int, Float as a_float, Region as a_region, Const as a_const}
use Rattle.theory.specs.declared.words.Sort.{Sort}
use Rattle.theory.specs.declared.words.Kind.{Kind}
use Rattle.theory.specs.declared.words.Kind.TheVariants.{Ty as k_ty, Int as k_int, Float as k_float, Region as k_region, Const as k_const, Placeholder as k_placeholder}
use Rattle.theory.specs.declared.words.Leaf.{Leaf}
use Rattle.theory.specs.declared.words.Leaf.TheVariants.{Variable, RegionVariable, Parameter, LateParameter, Placeholder, Bound, Canonical, Error, Static, Erased, Kind as AKind}
use Rattle.theory.specs.declared.words.Head.{Head}
use Rattle.theory.specs.declared.words.Head.TheVariants.{Constructor, Alias, Function, Unevaluated, Value, Predicate, OpaquePair, Goal as AGoal, Outlives, Equal, List as AList}
use Rattle.theory.specs.declared.words.Want.TheVariants.{Argument as AnArgument}
use Rattle.theory.specs.Outcomes.{is_some}
use Rattle.theory.specs.Trees.{Tree, leaf, node, nil, cons, items, applies, under, seen, node_sort, wants, least, same_sort, served}

-- the sort of what a store holds
abbrev pub sort_of : Tree → Sort
sort_of t = node_sort (seen t)

-- Well formed

-- a leaf or a node, and no row of parts
abbrev pub is_entry : Tree → Bool
is_entry (leaf x) = true
is_entry (node h ts) = true
is_entry nil = false
is_entry (cons t u) = false

-- what stands at a place of the row under a head: an argument, where the head stands over a list of arguments
abbrev pub takes_there : Head → ℕ → Tree → Bool
takes_there h k t = served (cond (applies h) (Some AnArgument) (wants h k)) (seen t)

abbrev pub fewest : Head → ℕ
fewest h = cond (applies h) 0 (least h)

-- a row, from place k on, as a head takes it
unfoldable pub fits_row : Head → ℕ → Tree → Bool
fits_row h k (leaf x) = false
fits_row h k (node j ts) = false
fits_row h k nil = nat_le (fewest h) k
fits_row h k (cons t u) = is_entry t && takes_there h k t && fits_row h (suc k) u

-- every head in the tree has a row that it takes
unfoldable pub well_formed : Tree → Bool
well_formed (leaf x) = true
well_formed (node h ts) = fits_row h 0 ts && well_formed ts
well_formed nil = true
well_formed (cons t u) = well_formed t && well_formed u

-- a well-formed term of a sort
abbrev pub Formed : Sort → Tree → Bool
Formed s t = is_entry t && same_sort s (sort_of t) && well_formed t

-- Leaves

-- some leaf passes the test
unfoldable pub any : (Leaf → Bool) → Tree → Bool
any f (leaf x) = f x
any f (node h ts) = any f ts
any f nil = false
any f (cons t u) = any f t || any f u

-- the number of a canonical variable
abbrev pub canonical_number : Leaf → Option ℕ
canonical_number (Variable s n) = none
canonical_number (RegionVariable n) = none
canonical_number (Parameter a n) = none
canonical_number (LateParameter n) = none
canonical_number (Placeholder a u n) = none
canonical_number (Bound a d n) = none
canonical_number (Canonical a n) = some n
canonical_number (Error a) = none
canonical_number Static = none
canonical_number Erased = none
canonical_number (AKind k) = none

abbrev pub is_canonical : Leaf → Bool
is_canonical x = is_some (canonical_number x)

abbrev pub is_variable : Leaf → Bool
is_variable (Variable s n) = true
is_variable (RegionVariable n) = true
is_variable (Parameter a n) = false
is_variable (LateParameter n) = false
is_variable (Placeholder a u n) = false
is_variable (Bound a d n) = false
is_variable (Canonical a n) = false
is_variable (Error a) = false
is_variable Static = false
is_variable Erased = false
is_variable (AKind k) = false

-- the variable of a sort with a number
abbrev pub variable_of : VariableSort → ℕ → Leaf
variable_of a_ty n = Variable v_ty n
variable_of an_int n = Variable v_int n
variable_of a_float n = Variable v_float n
variable_of a_region n = RegionVariable n
variable_of a_const n = Variable v_const n

-- Integer types are the constructors 1 to 12, float types 13 to 16, each with an empty list.

abbrev pub numbered_from : ℕ → ℕ → Head → Bool
numbered_from low high (Constructor n) = nat_le low n && nat_le n high
numbered_from low high (Alias n) = false
numbered_from low high (Function n) = false
numbered_from low high (Unevaluated n) = false
numbered_from low high (Value n) = false
numbered_from low high (Predicate n c) = false
numbered_from low high OpaquePair = false
numbered_from low high AGoal = false
numbered_from low high (Outlives v) = false
numbered_from low high (Equal v) = false
numbered_from low high (AList s) = false

abbrev pub is_empty_row : Tree → Bool
is_empty_row (leaf x) = false
is_empty_row (node h ts) = false
is_empty_row nil = true
is_empty_row (cons t u) = false

unfoldable pub is_plain : ℕ → ℕ → Tree → Bool
is_plain low high (leaf x) = false
is_plain low high (node h ts) = numbered_from low high h && is_empty_row ts
is_plain low high nil = false
is_plain low high (cons t u) = false

abbrev pub is_integer : Tree → Bool
is_integer t = is_plain 1 12 t

abbrev pub is_floating : Tree → Bool
is_floating t = is_plain 13 16 t

-- Lists and kinds

-- how many elements a row has
abbrev pub width : Tree → ℕ
width t = length (items t)

-- the elements of a list
abbrev pub elements : Tree → List Tree
elements t = items (under t)

unfoldable pub kind_sort : Kind → ArgSort
kind_sort (k_ty u r) = ty
kind_sort k_int = ty
kind_sort k_float = ty
kind_sort (k_region u) = region
kind_sort (k_const u) = const
kind_sort (k_placeholder a u n) = a

unfoldable pub kind_universe : Kind → ℕ
kind_universe (k_ty u r) = u
kind_universe k_int = 0
kind_universe k_float = 0
kind_universe (k_region u) = u
kind_universe (k_const u) = u
kind_universe (k_placeholder a u n) = u

abbrev pub kind_in : Leaf → List Kind
kind_in (Variable s n) = []
kind_in (RegionVariable n) = []
kind_in (Parameter a n) = []
kind_in (LateParameter n) = []
kind_in (Placeholder a u n) = []
kind_in (Bound a d n) = []
kind_in (Canonical a n) = []
kind_in (Error a) = []
kind_in Static = []
kind_in Erased = []
kind_in (AKind k) = k ∷ []

-- the kinds among trees
abbrev pub kinds_in : List Tree → List Kind
kinds_in [] = []
kinds_in (leaf x ∷ ts) = kind_in x ++ kinds_in ts
kinds_in (node h us ∷ ts) = kinds_in ts
kinds_in (nil ∷ ts) = kinds_in ts
kinds_in (cons t u ∷ ts) = kinds_in ts
