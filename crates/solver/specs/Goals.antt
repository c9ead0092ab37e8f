-- Which leaves of a goal are names, the form of the kind that each gets, and how names are listed.
use Rattle.std.specs.Prelude.{ℕ, cond, List, [], ◌∷◌, ◌++◌, length, Some, None, Ok, Err, Option, Result, nat_lt}
use Rattle.std.specs.List.{position_from}
use Rattle.std.specs.Option.{unwrap_or}
use Rattle.theory.specs.declared.words.ArgSort.{ArgSort}
use Rattle.theory.specs.declared.words.ArgSort.TheVariants.{Ty as ty, Region as region, Const as const}
use Rattle.theory.specs.declared.words.VarSort.{VarSort}
use Rattle.theory.specs.declared.words.VarSort.TheVariants.{Ty as v_ty, Int as v_int, Float as v_float, Const as v_const}
use Rattle.theory.specs.declared.words.Leaf.{Leaf}
use Rattle.theory.specs.declared.words.Leaf.TheVariants.{Variable, RegionVariable, Parameter, LateParameter, Placeholder, Bound, Canonical, Error, Static, Erased, Kind as AKind}
use Rattle.theory.specs.declared.words.Kind.{Kind}
use Rattle.theory.specs.declared.words.Kind.TheVariants.{Ty as KTy, Int as KInt, Float as KFloat, Const as KConst, Placeholder as KPlaceholder}
use Rattle.theory.specs.Limits.{most_names}
use Rattle.theory.specs.Log.{of_var}
use Rattle.host.specs.Hosts.{count, rooted}
use Rattle.host.specs.declared.fault.HostFault.{HostFault}
use Rattle.theory.specs.declared.words.VariableSort.{VariableSort}
use Rattle.theory.specs.declared.words.VariableSort.TheVariants.{Ty as h_ty, Region as h_region}
use Rattle.host.specs.declared.plain.PlainHost.{PlainHost}
use Rattle.solver.specs.Names.{is_leaf, in_class}
use Rattle.solver.specs.declared.canonical.fault.GoalFault.{GoalFault}
use Rattle.solver.specs.declared.canonical.fault.GoalFault.TheVariants.{UnknownVariable, TooManyNames}
use Rattle.solver.specs.declared.canonical.names.Name.{Name}
use Rattle.solver.specs.declared.canonical.forms.Part.{Part}
use Rattle.solver.specs.declared.canonical.forms.Part.TheVariants.{Environment, Value, Opaques}
use Rattle.solver.specs.declared.canonical.forms.Form.{Form}
use Rattle.solver.specs.declared.canonical.forms.Form.TheVariants.{Ty as FTy, Int as FInt, Float as FFloat, Const as FConst, Placeholder as FPlaceholder}

abbrev pub variable_form : VarSort → ℕ → Form
variable_form v_ty n = FTy n
variable_form v_int n = FInt
variable_form v_float n = FFloat
variable_form v_const n = FConst

-- an error stays, unless it is a region
abbrev pub error_form : ArgSort → Option Form
error_form ty = None
error_form region = Some (FPlaceholder region)
error_form const = None

-- in the environment static stays
abbrev pub static_form : Part → Option Form
static_form Environment = None
static_form Value = Some (FPlaceholder region)
static_form Opaques = Some (FPlaceholder region)

-- The one decision: the form of the kind that a leaf gets in that part of a goal, or none where it stays.
abbrev pub goal_form : Part → Leaf → Option Form
goal_form p (Variable s n) = Some (variable_form s n)
goal_form p (RegionVariable n) = Some (FPlaceholder region)
goal_form p (Parameter a n) = Some (FPlaceholder a)
goal_form p (LateParameter n) = Some (FPlaceholder region)
goal_form p (Placeholder a u n) = Some (FPlaceholder a)
goal_form p (Bound a d n) = None
goal_form p (Canonical a n) = None
goal_form p (Error a) = error_form a
goal_form p Static = static_form p
goal_form p Erased = Some (FPlaceholder region)
goal_form p (AKind k) = None

-- the sort of the canonical variable that stands for a name of this form
abbrev pub form_sort : Form → ArgSort
form_sort (FTy v) = ty
form_sort FInt = ty
form_sort FFloat = ty
form_sort FConst = const
form_sort (FPlaceholder a) = a

-- the variable that a leaf is
abbrev pub leaf_variable : Leaf → Option (VariableSort × ℕ)
leaf_variable (Variable s n) = Some (of_var s, n)
leaf_variable (RegionVariable n) = Some (h_region, n)
leaf_variable (Parameter a n) = None
leaf_variable (LateParameter n) = None
leaf_variable (Placeholder a u n) = None
leaf_variable (Bound a d n) = None
leaf_variable (Canonical a n) = None
leaf_variable (Error a) = None
leaf_variable Static = None
leaf_variable Erased = None
leaf_variable (AKind k) = None

-- 4 for a variable that the host has not made
abbrev pub known_at : PlainHost → Option (VariableSort × ℕ) → Result (Unit {0}) GoalFault
known_at h None = Ok tt
known_at h (Some p) = cond (nat_lt p.1 (count h p.0)) (Ok tt) (Err (UnknownVariable p.0 p.1))

abbrev pub known : PlainHost → Leaf → Result (Unit {0}) GoalFault
known h x = known_at h (leaf_variable x)

-- the sub root that a type variable of a class gets behind the names before it: the first of its class, or its own number
abbrev pub sub_root : List Name → ℕ → ℕ
sub_root xs c = unwrap_or (position_from (in_class c) 0 xs) (length xs)

-- a new name: all kinds are in universe 0, a placeholder has its own number
abbrev pub new_name : List Name → ℕ → Kind → Option ℕ → Result (ℕ × List Name) GoalFault
new_name xs t k c = Ok (length xs, xs ++ (record { original = t; kind = k; class = c } ∷ []))

-- the only fault of a root is that the host has not made the type variable
abbrev pub of_class : List Name → ℕ → ℕ → Result ℕ HostFault → Result (ℕ × List Name) GoalFault
of_class xs t v (Ok c) = new_name xs t (KTy 0 (sub_root xs c)) (Some c)
of_class xs t v (Err e) = Err (UnknownVariable h_ty v)

abbrev pub formed : PlainHost → List Name → ℕ → Form → Result (ℕ × List Name) GoalFault
formed h xs t (FTy v) = of_class xs t v (rooted h v)
formed h xs t FInt = new_name xs t KInt None
formed h xs t FFloat = new_name xs t KFloat None
formed h xs t FConst = new_name xs t (KConst 0) None
formed h xs t (FPlaceholder a) = new_name xs t (KPlaceholder a 0 (length xs)) None

-- 15 where all names are taken
abbrev pub entered : PlainHost → List Name → ℕ → Form → Result (ℕ × List Name) GoalFault
entered h xs t f = cond (nat_lt (length xs) most_names) (formed h xs t f) (Err (TooManyNames t))

-- the number that a name has, or the next
abbrev pub numbered_at : PlainHost → List Name → ℕ → Form → Option ℕ → Result (ℕ × List Name) GoalFault
numbered_at h xs t f (Some n) = Ok (n, xs)
numbered_at h xs t f None = entered h xs t f

abbrev pub numbered : PlainHost → List Name → ℕ → Form → Result (ℕ × List Name) GoalFault
numbered h xs t f = numbered_at h xs t f (position_from (is_leaf t) 0 xs)
