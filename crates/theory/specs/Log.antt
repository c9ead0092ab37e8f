-- The log of a host, a list of events with the newest first, and what is read from it: universes, variables, bindings, sub
-- classes, hidden types, and what a term resolves to.
use Rattle.std.specs.Prelude.{ℕ, zero, suc, min, Bool, true, cond, ◌||◌, List, [], ◌∷◌, length, Ok, Result, ◌==◌, nat_lt}
use Rattle.std.proofs.Math.Option.{Option, none, some}
use Rattle.theory.specs.declared.words.VarSort.{VarSort}
use Rattle.theory.specs.declared.words.VarSort.TheVariants.{Ty as v_ty, Int as v_int, Float as v_float, Const as v_const}
use Rattle.theory.specs.declared.words.VariableSort.{VariableSort}
use Rattle.theory.specs.declared.words.VariableSort.TheVariants.{Ty as a_ty, Int as an_int, Float as a_float, Region as a_region, Const as a_const}
use Rattle.theory.specs.declared.words.Leaf.{Leaf}
use Rattle.theory.specs.declared.words.Leaf.TheVariants.{Variable, RegionVariable, Parameter, LateParameter, Placeholder, Bound, Canonical, Error, Static, Erased, Kind as AKind}
use Rattle.theory.specs.Outcomes.{◌>>=◌, must, test}
use Rattle.theory.specs.Codes.{leaf?}
use Rattle.theory.specs.Trees.{Tree, leaf, node, nil, cons, tree?}
use Rattle.theory.specs.Forms.{variable_of}
use Rattle.theory.specs.Faults.{HostFault, unknown_variable}

-- Events. A variable is made with its sort and universe; one is bound to a term; one is lowered to a universe; two type
-- variables, by their numbers, are joined in one sub class; a key has a hidden type; a key had one before.
pub data Event : Type 0 where
  opened : Event
  made : VariableSort → ℕ → Event
  binds : Leaf → Tree → Event
  lowered : Leaf → ℕ → Event
  joins : ℕ → ℕ → Event
  -- region records: the first says whether it is visible. Two regions are equal, left and right;
  -- or a region or a type outlives a region, right and left.
  equates : Bool → Leaf → Leaf → Event
  outlived : Bool → Tree → Tree → Event
  hidden : Tree → Tree → Event
  duplicate : Tree → Tree → Event

abbrev pub Log : Type 0
Log = List Event

-- the sort of a variable that is no region
abbrev pub of_var : VarSort → VariableSort
of_var v_ty = a_ty
of_var v_int = an_int
of_var v_float = a_float
of_var v_const = a_const

-- a sort of variables as a number, by which two are compared
abbrev pub variables_code : VariableSort → ℕ
variables_code a_ty = 0
variables_code an_int = 1
variables_code a_float = 2
variables_code a_region = 3
variables_code a_const = 4

abbrev pub same_variables : VariableSort → VariableSort → Bool
same_variables s r = variables_code s == variables_code r

-- What is read from the log

unfoldable pub universes : Log → ℕ
universes [] = 0
universes (opened ∷ l) = suc (universes l)
universes (made m u ∷ l) = universes l
universes (binds x t ∷ l) = universes l
universes (lowered x u ∷ l) = universes l
universes (joins a b ∷ l) = universes l
universes (equates v a b ∷ l) = universes l
universes (outlived v a b ∷ l) = universes l
universes (hidden a b ∷ l) = universes l
universes (duplicate a b ∷ l) = universes l

-- how many variables of a sort were made
unfoldable pub count : VariableSort → Log → ℕ
count m [] = 0
count m (opened ∷ l) = count m l
count m (made k u ∷ l) = cond (same_variables k m) (suc (count m l)) (count m l)
count m (binds x t ∷ l) = count m l
count m (lowered x u ∷ l) = count m l
count m (joins a b ∷ l) = count m l
count m (equates v a b ∷ l) = count m l
count m (outlived v a b ∷ l) = count m l
count m (hidden a b ∷ l) = count m l
count m (duplicate a b ∷ l) = count m l

-- no variable, or one that was made
unfoldable pub known : Log → Leaf → Bool
known l (Variable s n) = nat_lt n (count (of_var s) l)
known l (RegionVariable n) = nat_lt n (count a_region l)
known l (Parameter a n) = true
known l (LateParameter n) = true
known l (Placeholder a u n) = true
known l (Bound a d n) = true
known l (Canonical a n) = true
known l (Error a) = true
known l Static = true
known l Erased = true
known l (AKind k) = true

-- the universe of a variable: what it was last lowered to, or made in
unfoldable pub universe_of : Log → Leaf → ℕ
universe_of [] x = 0
universe_of (opened ∷ l) x = universe_of l x
universe_of (made m u ∷ l) x = cond (test (leaf? (variable_of m (count m l)) x)) u (universe_of l x)
universe_of (binds y t ∷ l) x = universe_of l x
universe_of (lowered y u ∷ l) x = cond (test (leaf? y x)) u (universe_of l x)
universe_of (joins a b ∷ l) x = universe_of l x
universe_of (equates v a b ∷ l) x = universe_of l x
universe_of (outlived v a b ∷ l) x = universe_of l x
universe_of (hidden a b ∷ l) x = universe_of l x
universe_of (duplicate a b ∷ l) x = universe_of l x

-- what a variable was bound to
unfoldable pub binding : Log → Leaf → Option Tree
binding [] x = none
binding (opened ∷ l) x = binding l x
binding (made m u ∷ l) x = binding l x
binding (binds y t ∷ l) x = cond (test (leaf? y x)) (some t) (binding l x)
binding (lowered y u ∷ l) x = binding l x
binding (joins a b ∷ l) x = binding l x
binding (equates v a b ∷ l) x = binding l x
binding (outlived v a b ∷ l) x = binding l x
binding (hidden a b ∷ l) x = binding l x
binding (duplicate a b ∷ l) x = binding l x

-- the root of a type variable's sub class: its lowest variable
abbrev pub merge : ℕ → ℕ → ℕ → ℕ
merge a b r = cond (r == a || r == b) (min a b) r

abbrev pub merge_at : Option ℕ → Option ℕ → (ℕ → ℕ) → ℕ → ℕ
merge_at none b f x = f x
merge_at (some a) none f x = f x
merge_at (some a) (some b) f x = merge (f a) (f b) (f x)

-- the number of a type variable
abbrev pub ty_number : VarSort → ℕ → Option ℕ
ty_number v_ty n = some n
ty_number v_int n = none
ty_number v_float n = none
ty_number v_const n = none

abbrev pub leaf_ty : Leaf → Option ℕ
leaf_ty (Variable s n) = ty_number s n
leaf_ty (RegionVariable n) = none
leaf_ty (Parameter a n) = none
leaf_ty (LateParameter n) = none
leaf_ty (Placeholder a u n) = none
leaf_ty (Bound a d n) = none
leaf_ty (Canonical a n) = none
leaf_ty (Error a) = none
leaf_ty Static = none
leaf_ty Erased = none
leaf_ty (AKind k) = none

abbrev pub tree_ty : Tree → Option ℕ
tree_ty (leaf x) = leaf_ty x
tree_ty (node h ts) = none
tree_ty nil = none
tree_ty (cons t u) = none

unfoldable pub root : Log → ℕ → ℕ
root [] x = x
root (opened ∷ l) x = root l x
root (made m u ∷ l) x = root l x
root (binds y t ∷ l) x = merge_at (leaf_ty y) (tree_ty t) (root l) x
root (lowered y u ∷ l) x = root l x
root (joins a b ∷ l) x = merge (root l a) (root l b) (root l x)
root (equates v a b ∷ l) x = root l x
root (outlived v a b ∷ l) x = root l x
root (hidden a b ∷ l) x = root l x
root (duplicate a b ∷ l) x = root l x

-- the newest hidden type of a key
unfoldable pub hidden_of : Log → Tree → Option Tree
hidden_of [] k = none
hidden_of (opened ∷ l) k = hidden_of l k
hidden_of (made m u ∷ l) k = hidden_of l k
hidden_of (binds x t ∷ l) k = hidden_of l k
hidden_of (lowered x u ∷ l) k = hidden_of l k
hidden_of (joins a b ∷ l) k = hidden_of l k
hidden_of (equates v a b ∷ l) k = hidden_of l k
hidden_of (outlived v a b ∷ l) k = hidden_of l k
hidden_of (hidden j t ∷ l) k = cond (test (tree? j k)) (some t) (hidden_of l k)
hidden_of (duplicate a b ∷ l) k = hidden_of l k

-- Resolving follows bindings to an unbound variable or another term; a log of n events has at most n to follow.
-- An unknown variable is refused (4).
abbrev pub next : (Tree → Result Tree HostFault) → Leaf → Option Tree → Result Tree HostFault
next rec x none = Ok (leaf x)
next rec x (some t) = rec t

abbrev pub follow_one : (Tree → Result Tree HostFault) → Log → Tree → Result Tree HostFault
follow_one rec l (leaf x) = must (known l x) (unknown_variable x) >>= λ a. next rec x (binding l x)
follow_one rec l (node h ts) = Ok (node h ts)
follow_one rec l nil = Ok nil
follow_one rec l (cons t u) = Ok (cons t u)

unfoldable pub follow : ℕ → Log → Tree → Result Tree HostFault
follow zero l t = Ok t
follow (suc n) l t = follow_one (follow n l) l t

unfoldable pub resolve : Log → Tree → Result Tree HostFault
resolve l t = follow (suc (length l)) l t
