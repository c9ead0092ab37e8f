-- Applying an answer to a question, in seven steps. All or nothing: a refusal leaves store, host and question as they were.
-- Steps: universes are opened; guesses are noted; kinds get values; canonical variables are replaced; original values and
-- answer values are related; region constraints; hidden types.
use Rattle.std.specs.Prelude.{ℕ, zero, suc, ◌+◌, Bool, true, false, cond, ◌&&◌, ◌||◌, List, [], ◌∷◌, ◌++◌, length, Ok, Err, Result, ◌==◌, nat_le}
use Rattle.std.proofs.Math.Option.{Option, none, some}
use Rattle.theory.specs.declared.words.ArgSort.{ArgSort}
use Rattle.theory.specs.declared.words.ArgSort.TheVariants.{Ty as ty, Region as region, Const as const}
use Rattle.theory.specs.declared.words.VarSort.{VarSort}
use Rattle.theory.specs.declared.words.VarSort.TheVariants.{Ty as v_ty, Int as v_int, Float as v_float, Const as v_const}
use Rattle.theory.specs.declared.words.VariableSort.{VariableSort}
use Rattle.theory.specs.declared.words.VariableSort.TheVariants.{Ty as a_ty, Int as an_int, Float as a_float, Region as a_region, Const as a_const}
use Rattle.theory.specs.declared.words.ListSort.TheVariants.{Arguments, OpaquePairs, Goals, Constraints, Kinds}
use Rattle.theory.specs.declared.words.Sort.{Sort}
use Rattle.theory.specs.declared.words.Sort.TheVariants.{Argument, Predicate as predicate, OpaquePair as opaque_pair, Goal as goal, Constraint as constraint, Kind as kind, List as list_of}
use Rattle.theory.specs.declared.words.Kind.{Kind}
use Rattle.theory.specs.declared.words.Kind.TheVariants.{Ty as k_ty, Int as k_int, Float as k_float, Region as k_region, Const as k_const, Placeholder as k_placeholder}
use Rattle.theory.specs.declared.words.Leaf.{Leaf}
use Rattle.theory.specs.declared.words.Leaf.TheVariants.{Variable, RegionVariable, Parameter, LateParameter, Placeholder, Bound, Canonical, Error, Static, Erased, Kind as AKind}
use Rattle.theory.specs.declared.words.Head.{Head}
use Rattle.theory.specs.declared.words.Head.TheVariants.{Constructor, Alias, Function, Unevaluated, Value, Predicate, OpaquePair, Goal as AGoal, Outlives, Equal, List as AList}
use Rattle.theory.specs.declared.words.StoreFault.{StoreFault}
use Rattle.theory.specs.Outcomes.{◌>>=◌, must, raised, along, given, at}
use Rattle.theory.specs.Trees.{Tree, leaf, node, nil, cons, items, same_sort}
use Rattle.theory.specs.Store.{Contents, handle, stored, found, read_as}
use Rattle.theory.specs.Folds.{Folded, folded, fold, anywhere}
use Rattle.theory.specs.Forms.{sort_of, variable_of, is_integer, is_floating, elements, kind_universe, kinds_in}
use Rattle.theory.specs.Faults.{HostFault, Fault, in_host, universe_too_large, lengths_differ, not_canonical, nothing_named, wrong_sort, constant_outlives, from_store}
use Rattle.theory.specs.Log.{outlived, universes, count, tree_ty}
use Rattle.theory.specs.Host.{Host, push, open_universes, make, join, hide}
use Rattle.theory.specs.Relate.{relate, equate}

-- an answer as a caller gives it: handles, a largest universe, a certainty
pub record Reply : Type 0 where
  pub largest : ℕ
  pub kinds : ℕ
  pub values : ℕ
  pub constraints : ℕ
  pub opaques : ℕ
  pub goals : ℕ
  pub certainty : ℕ

-- an answer as trees
pub record Answer : Type 0 where
  pub largest : ℕ
  pub kinds : List Kind
  pub values : Tree
  pub constraints : Tree
  pub opaques : Tree
  pub goals : Tree
  pub certainty : ℕ

-- 1: some handle has nothing, or another sort than its place in an answer takes
unfoldable pub answer_read : List Tree → Reply → Result Answer StoreFault
answer_read m r =
    read_as m (list_of Kinds) 0 r.kinds >>= λ k.
    read_as m (list_of Arguments) 1 r.values >>= λ v.
    read_as m (list_of Constraints) 2 r.constraints >>= λ c.
    read_as m (list_of OpaquePairs) 3 r.opaques >>= λ o.
    read_as m (list_of Goals) 4 r.goals >>= λ g.
    Ok
    (record {
      largest = r.largest;
      kinds = kinds_in (elements k);
      values = v;
      constraints = c;
      opaques = o;
      goals = g;
      certainty = r.certainty;
    })

abbrev pub pairwise : List Tree → List Tree → List (Tree × Tree)
pairwise [] vs = []
pairwise (o ∷ os) [] = []
pairwise (o ∷ os) (v ∷ vs) = (o, v) ∷ pairwise os vs

-- Step 2: guesses. A canonical value, unless it is a type whose kind is Ty, makes the original at its place the guess of its
-- kind; 20 for one of bound form, or with no kind.

-- a value of bound or canonical form: the leaf, its sort, whether it is canonical, its number
pub record Numbered : Type 0 where
  pub value : Leaf
  pub sort : ArgSort
  pub canonical : Bool
  pub number : ℕ

abbrev pub numbered_leaf : Leaf → Option Numbered
numbered_leaf (Variable s n) = none
numbered_leaf (RegionVariable n) = none
numbered_leaf (Parameter a n) = none
numbered_leaf (LateParameter n) = none
numbered_leaf (Placeholder a u n) = none
numbered_leaf (Bound a d n) = some (record { value = Bound a d n; sort = a; canonical = false; number = n })
numbered_leaf (Canonical a n) = some (record { value = Canonical a n; sort = a; canonical = true; number = n })
numbered_leaf (Error a) = none
numbered_leaf Static = none
numbered_leaf Erased = none
numbered_leaf (AKind k) = none

abbrev pub numbered_value : Tree → Option Numbered
numbered_value (leaf x) = numbered_leaf x
numbered_value (node h ts) = none
numbered_value nil = none
numbered_value (cons t u) = none

abbrev pub variable_sort : Tree → Option VarSort
variable_sort (leaf (Variable s n)) = some s
variable_sort (leaf (RegionVariable n)) = none
variable_sort (leaf (Parameter a n)) = none
variable_sort (leaf (LateParameter n)) = none
variable_sort (leaf (Placeholder a u n)) = none
variable_sort (leaf (Bound a d n)) = none
variable_sort (leaf (Canonical a n)) = none
variable_sort (leaf (Error a)) = none
variable_sort (leaf Static) = none
variable_sort (leaf Erased) = none
variable_sort (leaf (AKind k)) = none
variable_sort (node h ts) = none
variable_sort nil = none
variable_sort (cons t u) = none

abbrev pub int_sort : Option VarSort → Bool
int_sort none = false
int_sort (some v_ty) = false
int_sort (some v_int) = true
int_sort (some v_float) = false
int_sort (some v_const) = false

abbrev pub float_sort : Option VarSort → Bool
float_sort none = false
float_sort (some v_ty) = false
float_sort (some v_int) = false
float_sort (some v_float) = true
float_sort (some v_const) = false

-- A guess stands for a new variable that is related with the original afterwards, so it is taken only where that has the same
-- solutions: for an integer (float) kind, an integer (float) variable, or one of its constructors with an empty list.
abbrev pub fits : Kind → Tree → Bool
fits (k_ty u r) o = true
fits k_int o = int_sort (variable_sort o) || is_integer o
fits k_float o = float_sort (variable_sort o) || is_floating o
fits (k_region u) o = true
fits (k_const u) o = true
fits (k_placeholder a u n) o = true

abbrev pub is_ty_kind : Kind → Bool
is_ty_kind (k_ty u r) = true
is_ty_kind k_int = false
is_ty_kind k_float = false
is_ty_kind (k_region u) = false
is_ty_kind (k_const u) = false
is_ty_kind (k_placeholder a u n) = false

abbrev pub is_ty : ArgSort → Bool
is_ty ty = true
is_ty region = false
is_ty const = false

-- newest first: the last guess holds
abbrev pub Guesses : Type 0
Guesses = List (ℕ × Tree)

abbrev pub note_if : Bool → Numbered → Kind → Tree → Guesses → Result Guesses Fault
note_if true v k o gs = Ok gs
note_if false v k o gs = must v.canonical (not_canonical v.value) >>= λ _. Ok (cond (fits k o) ((v.number, o) ∷ gs) gs)

abbrev pub note : List Kind → Tree → Option Numbered → Guesses → Result Guesses Fault
note ks o none gs = Ok gs
note ks o (some v) gs =
    given (at ks v.number) (not_canonical v.value) >>= λ k. note_if (is_ty v.sort && is_ty_kind k) v k o gs

unfoldable pub guesses : List Kind → List (Tree × Tree) → Result Guesses Fault
guesses ks ps = along (λ p gs. note ks p.0 (numbered_value p.1) gs) ps []

abbrev pub guess_of : ℕ → Guesses → Option Tree
guess_of n [] = none
guess_of n (g ∷ gs) = cond (g.0 == n) (some g.1) (guess_of n gs)

-- Step 3: kinds get values in order

pub record Given : Type 0 where
  pub values : List Tree
  pub host : Host
  pub store : Contents

abbrev pub given_next : Given → Tree → Host → Contents → Given
given_next w t h c = record { values = w.values ++ (t ∷ []); host = h; store = c }

-- the new variable joins the class of the earlier value that its sub root names; 21 if that is no type variable
abbrev pub join_sub : Kind → ℕ → Option Tree → Host → Result Host Fault
join_sub k n none h = Ok h
join_sub k n (some t) h = given (tree_ty t) (nothing_named k) >>= λ b. raised in_host (join n b h)

abbrev pub join_kind : Kind → ℕ → List Tree → Host → Result Host Fault
join_kind (k_ty u r) n vs h = join_sub (k_ty u r) n (at vs r) h
join_kind k_int n vs h = Ok h
join_kind k_float n vs h = Ok h
join_kind (k_region u) n vs h = Ok h
join_kind (k_const u) n vs h = Ok h
join_kind (k_placeholder a u m) n vs h = Ok h

-- a new variable: its event, its term, then the join
unfoldable pub new_value : VariableSort → Kind → ℕ → Given → Result Given Fault
new_value s k u w =
    let n : ℕ = count s w.host.log in
    raised in_host (make s u w.host) >>= λ h.
    raised from_store (stored w.store (leaf (variable_of s n))) >>= λ c.
    join_kind k n w.values h >>= λ g.
    Ok (given_next w (leaf (variable_of s n)) g c)

abbrev pub variable_value : VariableSort → Kind → ℕ → ℕ → Option Tree → Given → Result Given Fault
variable_value s k p zero none w = new_value s k p w
variable_value s k p zero (some o) w = Ok (given_next w o w.host w.store)
variable_value s k p (suc u) g w = new_value s k (p + suc u) w

abbrev pub placeholder_value : List Tree → ArgSort → ℕ → ℕ → ℕ → Given → Result Given Fault
placeholder_value os a p zero n w =
    given (at os n) (nothing_named (k_placeholder a 0 n)) >>= λ o. Ok (given_next w o w.host w.store)
placeholder_value os a p (suc u) n w =
    raised from_store (stored w.store (leaf (Placeholder a (p + suc u) n))) >>= λ c.
    Ok (given_next w (leaf (Placeholder a (p + suc u) n)) w.host c)

unfoldable pub kind_value : List Tree → Guesses → ℕ → Kind → Given → Result Given Fault
kind_value os gs p (k_ty u r) w = variable_value a_ty (k_ty u r) p u (guess_of (length w.values) gs) w
kind_value os gs p k_int w = variable_value an_int k_int p 0 (guess_of (length w.values) gs) w
kind_value os gs p k_float w = variable_value a_float k_float p 0 (guess_of (length w.values) gs) w
kind_value os gs p (k_region u) w = variable_value a_region (k_region u) p u (guess_of (length w.values) gs) w
kind_value os gs p (k_const u) w = variable_value a_const (k_const u) p u (guess_of (length w.values) gs) w
kind_value os gs p (k_placeholder a u n) w = placeholder_value os a p u n w

unfoldable pub kind_values : List Tree → Guesses → ℕ → List Kind → Host → Contents → Result Given Fault
kind_values os gs p ks h c = along (kind_value os gs p) ks (record { values = []; host = h; store = c })

-- Step 4: canonical variables are replaced. 20 for a number with no value, 22 for a value of another sort.

abbrev pub filled_with : List Tree → ArgSort → ℕ → Contents → Result (Folded (Unit {0})) Fault
filled_with vs a n c =
    given (at vs n) (not_canonical (Canonical a n)) >>= λ t.
    must (same_sort (Argument a) (sort_of t)) (wrong_sort (Canonical a n)) >>= λ _.
    Ok (folded t tt c)

unfoldable pub fill_leaf : List Tree → ℕ → Leaf → Unit {0} → Contents → Result (Folded (Unit {0})) Fault
fill_leaf vs d (Variable s n) u c = Ok (folded (leaf (Variable s n)) tt c)
fill_leaf vs d (RegionVariable n) u c = Ok (folded (leaf (RegionVariable n)) tt c)
fill_leaf vs d (Parameter a n) u c = Ok (folded (leaf (Parameter a n)) tt c)
fill_leaf vs d (LateParameter n) u c = Ok (folded (leaf (LateParameter n)) tt c)
fill_leaf vs d (Placeholder a w n) u c = Ok (folded (leaf (Placeholder a w n)) tt c)
fill_leaf vs d (Bound a k n) u c = Ok (folded (leaf (Bound a k n)) tt c)
fill_leaf vs d (Canonical a n) u c = filled_with vs a n c
fill_leaf vs d (Error a) u c = Ok (folded (leaf (Error a)) tt c)
fill_leaf vs d Static u c = Ok (folded (leaf Static) tt c)
fill_leaf vs d Erased u c = Ok (folded (leaf Erased) tt c)
fill_leaf vs d (AKind k) u c = Ok (folded (leaf (AKind k)) tt c)

unfoldable pub fill : List Tree → Tree → Contents → Result (Folded (Unit {0})) Fault
fill vs t c = fold from_store anywhere (fill_leaf vs) 0 t tt c

-- Step 5: original values and answer values are related pairwise
unfoldable pub relate_all : List (Tree × Tree) → Host → Result Host HostFault
relate_all ps h = along (λ p g. relate p.0 p.1 g) ps h

-- Step 6: region constraints

pub data Constraint : Type 0 where
  an_outlives an_equal : Bool → Tree → Tree → Constraint

abbrev pub constraint_as : Head → List Tree → List Constraint
constraint_as (Constructor n) ts = []
constraint_as (Alias n) ts = []
constraint_as (Function n) ts = []
constraint_as (Unevaluated n) ts = []
constraint_as (Value n) ts = []
constraint_as (Predicate n c) ts = []
constraint_as (AList s) ts = []
constraint_as OpaquePair ts = []
constraint_as AGoal ts = []
constraint_as (Outlives v) [] = []
constraint_as (Outlives v) (s ∷ []) = []
constraint_as (Outlives v) (s ∷ t ∷ ts) = an_outlives v s t ∷ []
constraint_as (Equal v) [] = []
constraint_as (Equal v) (s ∷ []) = []
constraint_as (Equal v) (s ∷ t ∷ ts) = an_equal v s t ∷ []

abbrev pub constraints_in : List Tree → List Constraint
constraints_in [] = []
constraints_in (leaf x ∷ ts) = constraints_in ts
constraints_in (node h us ∷ ts) = constraint_as h (items us) ++ constraints_in ts
constraints_in (nil ∷ ts) = constraints_in ts
constraints_in (cons t u ∷ ts) = constraints_in ts

-- by a region on the left, as visible as it may be; by a type, never; 23 for a constant
abbrev pub outlive_as : ArgSort → Bool → Tree → Tree → Host → Result Host Fault
outlive_as ty v s t h = raised in_host (push (outlived false t s) h)
outlive_as region v s t h = raised in_host (push (outlived v t s) h)
outlive_as const v s t h = Err (constant_outlives s)

-- what is no argument stands in no constraint that a store holds
abbrev pub outlive : Sort → Bool → Tree → Tree → Host → Result Host Fault
outlive (Argument a) v s t h = outlive_as a v s t h
outlive predicate v s t h = Err (constant_outlives s)
outlive opaque_pair v s t h = Err (constant_outlives s)
outlive goal v s t h = Err (constant_outlives s)
outlive constraint v s t h = Err (constant_outlives s)
outlive kind v s t h = Err (constant_outlives s)
outlive (list_of r) v s t h = Err (constant_outlives s)

abbrev pub constrain : Bool → Constraint → Host → Result Host Fault
constrain visible (an_outlives v s t) h = outlive (sort_of s) (v && visible) s t h
constrain visible (an_equal v s t) h = raised in_host (equate (v && visible) s t h)

-- Step 7: hidden types

abbrev pub two_parts : List Tree → List (Tree × Tree)
two_parts [] = []
two_parts (s ∷ []) = []
two_parts (s ∷ t ∷ ts) = (s, t) ∷ []

abbrev pub pairs_in : List Tree → List (Tree × Tree)
pairs_in [] = []
pairs_in (leaf x ∷ ts) = pairs_in ts
pairs_in (node h us ∷ ts) = two_parts (items us) ++ pairs_in ts
pairs_in (nil ∷ ts) = pairs_in ts
pairs_in (cons t u ∷ ts) = pairs_in ts

-- The equations of an answer, canonical variables replaced: its values with the originals, and its region equalities

abbrev pub equality_of : Constraint → List (Tree × Tree)
equality_of (an_outlives v s t) = []
equality_of (an_equal v s t) = (s, t) ∷ []

abbrev pub equalities : List Constraint → List (Tree × Tree)
equalities [] = []
equalities (c ∷ cs) = equality_of c ++ equalities cs

-- What an accepted apply leaves: the handle of the nested goals, the certainty, host and store; and the equations that it had

pub record Applied : Type 0 where
  pub goals : ℕ
  pub certainty : ℕ
  pub equations : List (Tree × Tree)
  pub host : Host
  pub store : Contents

-- 18: the first kind whose universe is above the largest
unfoldable pub within_largest : ℕ → List Kind → Result (Unit {0}) Fault
within_largest m [] = Ok tt
within_largest m (k ∷ ks) = must (nat_le (kind_universe k) m) (universe_too_large k) >>= λ _. within_largest m ks

unfoldable pub apply_tree : Bool → List Tree → Answer → Host → Contents → Result Applied Fault
apply_tree visible os r h m =
    within_largest r.largest r.kinds >>= λ _.
    must (length os == length (elements r.values)) lengths_differ >>= λ _.
    raised in_host (open_universes r.largest h) >>= λ h₁.
    guesses r.kinds (pairwise os (elements r.values)) >>= λ gs.
    kind_values os gs (universes h.log) r.kinds h₁ m >>= λ w.
    fill w.values r.values w.store >>= λ v.
    fill w.values r.constraints v.store >>= λ c.
    fill w.values r.opaques c.store >>= λ o.
    fill w.values r.goals o.store >>= λ g.
    raised in_host (relate_all (pairwise os (elements v.tree)) w.host) >>= λ h₂.
    along (constrain visible) (constraints_in (elements c.tree)) h₂ >>= λ h₃.
    raised in_host (along (λ q. hide q.0 q.1) (pairs_in (elements o.tree)) h₃) >>= λ h₄.
    Ok
    (record {
      goals = handle g.store.trees g.tree;
      certainty = r.certainty;
      equations = pairwise os (elements v.tree) ++ equalities (constraints_in (elements c.tree));
      host = h₄;
      store = g.store;
    })

-- with the handle of the question's list of original values
unfoldable pub apply : Bool → ℕ → Reply → Host → Contents → Result Applied Fault
apply visible q r h m =
    raised from_store (found m.trees q) >>= λ os.
    raised from_store (answer_read m.trees r) >>= λ t.
    apply_tree visible (elements os) t h m
