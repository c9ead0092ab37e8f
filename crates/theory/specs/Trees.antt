-- Terms as trees. What a store holds is a leaf, or a node: a head over the row of its parts (`nil` and `cons`).
-- A constructor, alias, function, unevaluated constant and predicate stand right over their arguments; the list of these
-- arguments is a tree of its own too, with the head `List Arguments`, and is held before them.
use Rattle.std.specs.Prelude.{ℕ, zero, suc, ◌+◌, ◌-◌, max, Bool, true, false, cond, List, [], ◌∷◌, length, Some, None, Option, ◌==◌, bit_or, nat_lt}
use Rattle.theory.specs.declared.words.ArgSort.{ArgSort}
use Rattle.theory.specs.declared.words.ArgSort.TheVariants.{Ty as ty, Region as region, Const as const}
use Rattle.theory.specs.declared.words.VarSort.{VarSort}
use Rattle.theory.specs.declared.words.VarSort.TheVariants.{Ty as v_ty, Int as v_int, Float as v_float, Const as v_const}
use Rattle.theory.specs.declared.words.ListSort.{ListSort}
use Rattle.theory.specs.declared.words.ListSort.TheVariants.{Arguments, Environment, OpaquePairs, Goals, Constraints, Kinds}
use Rattle.theory.specs.declared.words.Sort.{Sort}
use Rattle.theory.specs.declared.words.Sort.TheVariants.{Argument, Predicate as predicate, OpaquePair as opaque_pair, Goal as goal, Constraint as constraint, Kind as kind, List as list_of}
use Rattle.theory.specs.declared.words.Leaf.{Leaf}
use Rattle.theory.specs.declared.words.Leaf.TheVariants.{Variable, RegionVariable, Parameter, LateParameter, Placeholder, Bound, Canonical, Error, Static, Erased, Kind as AKind}
use Rattle.theory.specs.declared.words.Head.{Head}
use Rattle.theory.specs.declared.words.Head.TheVariants.{Constructor, Alias, Function, Unevaluated, Value, Predicate, OpaquePair, Goal, Outlives, Equal, List as AList}
use Rattle.theory.specs.declared.words.Node.{Node}
use Rattle.theory.specs.declared.words.Node.TheVariants.{Leaf as ALeaf, Over}
use Rattle.theory.specs.declared.words.Want.{Want}
use Rattle.theory.specs.declared.words.Want.TheVariants.{Argument as AnArgument, Alias as AnAlias, Of}
use Rattle.theory.specs.declared.words.Facts.{Facts}
use Rattle.theory.specs.Codes.{leaf?, head?}

pub data Tree : Type 0 where
  leaf : Leaf → Tree
  node : Head → Tree → Tree
  nil : Tree
  cons : Tree → Tree → Tree
  deriving Discrete as tree_discrete

unfoldable pub tree? : Discrete Tree
tree? = tree_discrete leaf? head?

-- Rows

abbrev pub items : Tree → List Tree
items (leaf x) = []
items (node h ts) = []
items nil = []
items (cons t u) = t ∷ items u

abbrev pub row : List Tree → Tree
row [] = nil
row (t ∷ ts) = cons t (row ts)

-- Parts

-- the heads that stand over one list of arguments
abbrev pub applies : Head → Bool
applies (Constructor n) = true
applies (Alias n) = true
applies (Function c) = true
applies (Unevaluated n) = true
applies (Value v) = false
applies (Predicate n c) = true
applies OpaquePair = false
applies Goal = false
applies (Outlives v) = false
applies (Equal v) = false
applies (AList s) = false

-- what must be held before a tree is: the list of its arguments, or each of its parts
abbrev pub parts : Tree → List Tree
parts (leaf x) = []
parts (node h ts) = cond (applies h) (node (AList Arguments) ts ∷ []) (items ts)
parts nil = []
parts (cons t u) = []

-- what stands under a node
abbrev pub under : Tree → Tree
under (leaf x) = nil
under (node h ts) = ts
under nil = nil
under (cons t u) = nil

-- the node with a head and parts; where the head stands over a list of arguments, its one part is that list
abbrev pub applied : Head → List Tree → Tree
applied h [] = node h nil
applied h (t ∷ ts) = node h (under t)

unfoldable pub assembled : Head → List Tree → Tree
assembled h ts = cond (applies h) (applied h ts) (node h (row ts))

-- an entry as it is read: its form, and the number of its parts
abbrev pub seen : Tree → Node
seen (leaf x) = ALeaf x
seen (node h ts) = Over h (length (parts (node h ts)))
seen nil = ALeaf Static
seen (cons t u) = ALeaf Static

-- how many parts an entry has
abbrev pub part_count : Node → ℕ
part_count (ALeaf x) = 0
part_count (Over h n) = n

-- Sorts

abbrev pub var_sort : VarSort → ArgSort
var_sort v_ty = ty
var_sort v_int = ty
var_sort v_float = ty
var_sort v_const = const

abbrev pub leaf_sort : Leaf → Sort
leaf_sort (Variable s n) = Argument (var_sort s)
leaf_sort (RegionVariable n) = Argument region
leaf_sort (Parameter a n) = Argument a
leaf_sort (LateParameter n) = Argument region
leaf_sort (Placeholder a u n) = Argument a
leaf_sort (Bound a d n) = Argument a
leaf_sort (Canonical a n) = Argument a
leaf_sort (Error a) = Argument a
leaf_sort Static = Argument region
leaf_sort Erased = Argument region
leaf_sort (AKind k) = kind

abbrev pub head_sort : Head → Sort
head_sort (Constructor n) = Argument ty
head_sort (Alias n) = Argument ty
head_sort (Function c) = Argument ty
head_sort (Unevaluated n) = Argument const
head_sort (Value v) = Argument const
head_sort (Predicate n c) = predicate
head_sort OpaquePair = opaque_pair
head_sort Goal = goal
head_sort (Outlives v) = constraint
head_sort (Equal v) = constraint
head_sort (AList s) = list_of s

abbrev pub node_sort : Node → Sort
node_sort (ALeaf x) = leaf_sort x
node_sort (Over h n) = head_sort h

-- What a head takes at each place, and how many parts it has at least

abbrev pub element : ListSort → Want
element Arguments = AnArgument
element Environment = Of predicate
element OpaquePairs = Of opaque_pair
element Goals = Of goal
element Constraints = Of constraint
element Kinds = Of kind

-- one part, or two
abbrev pub only : Want → ℕ → Option Want
only w zero = Some w
only w (suc k) = None

abbrev pub both : Want → Want → ℕ → Option Want
both w v zero = Some w
both w v (suc k) = only v k

-- none at a place that it does not have
abbrev pub wants : Head → ℕ → Option Want
wants (Constructor n) k = only (Of (list_of Arguments)) k
wants (Alias n) k = only (Of (list_of Arguments)) k
wants (Function c) k = only (Of (list_of Arguments)) k
wants (Unevaluated n) k = only (Of (list_of Arguments)) k
wants (Value v) k = only (Of (Argument ty)) k
wants (Predicate n c) k = only (Of (list_of Arguments)) k
wants OpaquePair k = both AnAlias (Of (Argument ty)) k
wants Goal k = both (Of (list_of Environment)) (Of predicate) k
wants (Outlives v) k = both AnArgument (Of (Argument region)) k
wants (Equal v) k = both (Of (Argument region)) (Of (Argument region)) k
wants (AList s) k = Some (element s)

abbrev pub least : Head → ℕ
least (Constructor n) = 1
least (Alias n) = 1
least (Function c) = 1
least (Unevaluated n) = 1
least (Value v) = 1
least (Predicate n c) = 1
least OpaquePair = 2
least Goal = 2
least (Outlives v) = 2
least (Equal v) = 2
least (AList s) = 0

-- a sort as a number, by which two are compared
abbrev pub sort_code : Sort → ℕ
sort_code (Argument ty) = 0
sort_code (Argument region) = 1
sort_code (Argument const) = 2
sort_code predicate = 3
sort_code opaque_pair = 4
sort_code goal = 5
sort_code constraint = 6
sort_code kind = 7
sort_code (list_of Arguments) = 8
sort_code (list_of Environment) = 9
sort_code (list_of OpaquePairs) = 10
sort_code (list_of Goals) = 11
sort_code (list_of Constraints) = 12
sort_code (list_of Kinds) = 13

abbrev pub same_sort : Sort → Sort → Bool
same_sort s r = sort_code s == sort_code r

abbrev pub is_argument : Sort → Bool
is_argument s = nat_lt (sort_code s) 3

abbrev pub is_alias_head : Head → Bool
is_alias_head (Constructor n) = false
is_alias_head (Alias n) = true
is_alias_head (Function c) = false
is_alias_head (Unevaluated n) = false
is_alias_head (Value v) = false
is_alias_head (Predicate n c) = false
is_alias_head OpaquePair = false
is_alias_head Goal = false
is_alias_head (Outlives v) = false
is_alias_head (Equal v) = false
is_alias_head (AList s) = false

abbrev pub is_alias : Node → Bool
is_alias (ALeaf x) = false
is_alias (Over h n) = is_alias_head h

-- whether what has a sort, and is an alias or none, is wanted
abbrev pub suits : Want → Sort → Bool → Bool
suits AnArgument s alias = is_argument s
suits AnAlias s alias = alias
suits (Of wanted) s alias = same_sort wanted s

abbrev pub meets : Want → Node → Bool
meets w v = suits w (node_sort v) (is_alias v)

abbrev pub served : Option Want → Node → Bool
served None v = false
served (Some w) v = meets w v

-- the head takes such an entry as its part at a place
abbrev pub takes : Head → ℕ → Node → Bool
takes h k v = served (wants h k) v

-- Height, flags, and the outermost bound depth

-- a list has the height of its highest element, any other node one more than its highest part
abbrev pub weight : Head → ℕ
weight (Constructor n) = 1
weight (Alias n) = 1
weight (Function c) = 1
weight (Unevaluated n) = 1
weight (Value v) = 1
weight (Predicate n c) = 1
weight OpaquePair = 1
weight Goal = 1
weight (Outlives v) = 1
weight (Equal v) = 1
weight (AList s) = 0

abbrev pub height : Tree → ℕ
height (leaf x) = 1
height (node h ts) = weight h + height ts
height nil = 0
height (cons t u) = max (height t) (height u)

abbrev pub var_flags : VarSort → ℕ
var_flags v_ty = 1
var_flags v_int = 2
var_flags v_float = 4
var_flags v_const = 8

-- b, and that it is a free region where it is a region
abbrev pub free : ArgSort → ℕ → ℕ
free ty b = b
free region b = b + 128
free const b = b

-- Bits of a leaf: 1 type, 2 integer, 4 float, 8 constant, 16 region variable; 32 placeholder; 64 parameter; 128 region
-- that is neither bound, canonical nor erased; 256 erased; 512 canonical variable.
abbrev pub leaf_flags : Leaf → ℕ
leaf_flags (Variable s n) = var_flags s
leaf_flags (RegionVariable n) = 144
leaf_flags (Parameter a n) = free a 64
leaf_flags (LateParameter n) = 192
leaf_flags (Placeholder a u n) = free a 32
leaf_flags (Bound a d n) = 0
leaf_flags (Canonical a n) = 512
leaf_flags (Error a) = free a 0
leaf_flags Static = 128
leaf_flags Erased = 256
leaf_flags (AKind k) = 0

-- which kinds of leaf occur
abbrev pub flags : Tree → ℕ
flags (leaf x) = leaf_flags x
flags (node h ts) = flags ts
flags nil = 0
flags (cons t u) = bit_or (flags t) (flags u)

-- how many binders a head opens over its parts
abbrev pub opens : Head → ℕ
opens (Constructor n) = 0
opens (Alias n) = 0
opens (Function c) = 1
opens (Unevaluated n) = 0
opens (Value v) = 0
opens (Predicate n c) = 1
opens OpaquePair = 0
opens Goal = 0
opens (Outlives v) = 0
opens (Equal v) = 0
opens (AList s) = 0

abbrev pub reach : Leaf → ℕ
reach (Variable s n) = 0
reach (RegionVariable n) = 0
reach (Parameter a n) = 0
reach (LateParameter n) = 0
reach (Placeholder a u n) = 0
reach (Bound a d n) = d + 1
reach (Canonical a n) = 0
reach (Error a) = 0
reach Static = 0
reach Erased = 0
reach (AKind k) = 0

-- how many binders must stand around a tree for none of its bound variables to leave them all
abbrev pub outer : Tree → ℕ
outer (leaf x) = reach x
outer (node h ts) = outer ts - opens h
outer nil = 0
outer (cons t u) = max (outer t) (outer u)

abbrev pub facts : Tree → Facts
facts t = record { height = height t; flags = record { bits = flags t }; outer = outer t }
