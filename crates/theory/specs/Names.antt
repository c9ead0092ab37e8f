-- Names: which leaf of a goal or of a response gets a number, and the form of the kind that it gets; and trees that differ in
-- names alone. Nothing here speaks of the numbers that names get, of tables, or of the order of a walk.
use Rattle.std.specs.Prelude.{◌≡◌, ℕ, Bool, true, false, ◌⊎◌, List, [], ◌∷◌, slice_index_or}
use Rattle.std.proofs.Math.Option.{Option, none, some}
use Rattle.theory.specs.declared.words.ArgSort.{ArgSort}
use Rattle.theory.specs.declared.words.ArgSort.TheVariants.{Ty as ty, Region as region, Const as const}
use Rattle.theory.specs.declared.words.VarSort.{VarSort}
use Rattle.theory.specs.declared.words.VarSort.TheVariants.{Ty as v_ty, Int as v_int, Float as v_float, Const as v_const}
use Rattle.theory.specs.declared.words.Leaf.{Leaf}
use Rattle.theory.specs.declared.words.Leaf.TheVariants.{Variable, RegionVariable, Parameter, LateParameter, Placeholder, Bound, Canonical, Error, Static, Erased, Kind as AKind}
use Rattle.theory.specs.declared.words.Head.{Head}
use Rattle.theory.specs.Outcomes.{is_some}
use Rattle.theory.specs.Trees.{Tree, leaf, node, nil, cons}
use Rattle.theory.specs.Forms.{canonical_number}

-- where a leaf stands: in the environment of a goal, elsewhere in a goal, in a response
pub data Part : Type 0 where
  in_environment elsewhere in_response : Part

-- The form of a kind: the kind without the sub root of a type variable, and without a number that is the name's own.
-- Type, region and constant variables have their universe.
pub data Form : Type 0 where
  a_type a_region a_constant : ℕ → Form
  an_integer a_float : Form
  -- in universe 0, with the number of its name
  own_placeholder : ArgSort → Form
  -- with a universe and a number
  a_placeholder : ArgSort → ℕ → ℕ → Form

-- the sort of the leaves that have a form
abbrev pub form_sort : Form → ArgSort
form_sort (a_type u) = ty
form_sort (a_region u) = region
form_sort (a_constant u) = const
form_sort an_integer = ty
form_sort a_float = ty
form_sort (own_placeholder a) = a
form_sort (a_placeholder a u n) = a

abbrev pub variable_form : VarSort → ℕ → Form
variable_form v_ty u = a_type u
variable_form v_int u = an_integer
variable_form v_float u = a_float
variable_form v_const u = a_constant u

abbrev pub region_form : Part → ℕ → Form
region_form in_environment u = own_placeholder region
region_form elsewhere u = own_placeholder region
region_form in_response u = a_region u

abbrev pub placeholder_form : Part → ArgSort → ℕ → ℕ → Form
placeholder_form in_environment a u n = own_placeholder a
placeholder_form elsewhere a u n = own_placeholder a
placeholder_form in_response a u n = a_placeholder a u n

-- a name in a goal alone
abbrev pub in_goal : Part → ArgSort → Option Form
in_goal in_environment a = some (own_placeholder a)
in_goal elsewhere a = some (own_placeholder a)
in_goal in_response a = none

-- of the errors only a region is a name
abbrev pub error_form : Part → ArgSort → Option Form
error_form p ty = none
error_form p region = in_goal p region
error_form p const = none

-- static stays in an environment
abbrev pub static_form : Part → Option Form
static_form in_environment = none
static_form elsewhere = some (own_placeholder region)
static_form in_response = none

-- The one decision: the form of the kind that a leaf gets in that part, or none where it stays; `universe` gives the universe that
-- a variable or placeholder is to have. A leaf with a form is a name.
unfoldable pub decided : (Leaf → ℕ) → Part → Leaf → Option Form
decided universe p (Variable s n) = some (variable_form s (universe (Variable s n)))
decided universe p (RegionVariable n) = some (region_form p (universe (RegionVariable n)))
decided universe p (Parameter a n) = in_goal p a
decided universe p (LateParameter n) = in_goal p region
decided universe p (Placeholder a u n) = some (placeholder_form p a (universe (Placeholder a u n)) n)
decided universe p (Bound a d n) = none
decided universe p (Canonical a n) = none
decided universe p (Error a) = error_form p a
decided universe p Static = static_form p
decided universe p Erased = in_goal p region
decided universe p (AKind k) = none

-- in a goal every kind is in universe 0
abbrev pub goal_form : Part → Leaf → Option Form
goal_form p x = decided (λ y. 0) p x

-- the leaf is a name in that part: in which universe does not matter
abbrev pub is_name : Part → Leaf → Bool
is_name p x = is_some (decided (λ y. 0) p x)

-- Trees that differ in names alone

-- x is a name in a tree that stands in that part
abbrev pub Name : Part → Tree → Leaf → Type 0
Name p (leaf y) x = (is_name p y ≡ true) × (x ≡ y)
Name p (node h ts) x = Name p ts x
Name p nil x = ⊥
Name p (cons t u) x = Name p t x ⊎ Name p u x

-- x and y are partners in a list of pairs
abbrev pub Partners : List (Leaf × Leaf) → Leaf → Leaf → Type 0
Partners [] x y = ⊥
Partners (q ∷ qs) x y = ((x ≡ q.0) × (y ≡ q.1)) ⊎ Partners qs x y

-- replacing names by partners turns the first tree into the second; what is no name in that part faces itself only
pub data Carries (P : List (Leaf × Leaf)) (p : Part) : Tree → Tree → Type 0 where
  kept : (x : Leaf) → is_name p x ≡ false → Carries P p (leaf x) (leaf x)
  swapped : (x y : Leaf) → is_name p x ≡ true → is_name p y ≡ true → Partners P x y → Carries P p (leaf x) (leaf y)
  in_node : (h : Head) (t u : Tree) → Carries P p t u → Carries P p (node h t) (node h u)
  in_nil : Carries P p nil nil
  in_cons : (t t' u u' : Tree) → Carries P p t t' → Carries P p u u' → Carries P p (cons t u) (cons t' u')

-- P pairs the leaves of `Left` with those of `Right`, every one and nothing else, one to one
pub record OneToOne (Left Right : Leaf → Type 0) (P : List (Leaf × Leaf)) : Type 0 where
  pub left_name : (x y : Leaf) → Partners P x y → Left x
  pub right_name : (x y : Leaf) → Partners P x y → Right y
  pub left_all : (x : Leaf) → Left x → (y : Leaf) × Partners P x y
  pub right_all : (y : Leaf) → Right y → (x : Leaf) × Partners P x y
  pub left_one : (x y y' : Leaf) → Partners P x y → Partners P x y' → y ≡ y'
  pub right_one : (x x' y : Leaf) → Partners P x y → Partners P x' y → x ≡ x'

-- Canonical variables

-- the leaf at a number of a list; where there is none, the leaf that asks
abbrev pub value_of : List Leaf → Leaf → Option ℕ → Leaf
value_of xs x none = x
value_of xs x (some n) = slice_index_or xs n x

-- values put for the canonical variables, each by its number
abbrev pub put_back : List Leaf → Tree → Tree
put_back xs (leaf x) = leaf (value_of xs x (canonical_number x))
put_back xs (node h ts) = node h (put_back xs ts)
put_back xs nil = nil
put_back xs (cons t u) = cons (put_back xs t) (put_back xs u)
