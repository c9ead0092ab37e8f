-- The sort of what a form makes, the sort that the store finds in what is made, and the numbers that a form is made with.
use Rattle.std.specs.Prelude.{ℕ, ◌^◌, Bool, true, false, ◌&&◌, Option, Some, None, nat_lt}
use Rattle.theory.specs.declared.words.ArgSort.TheVariants.{Ty as ty, Region as region, Const as const}
use Rattle.theory.specs.declared.words.Sort.{Sort}
use Rattle.theory.specs.declared.words.Sort.TheVariants.{Argument, Predicate as predicate, OpaquePair as opaque_pair, Goal as goal, Kind as kind, List as list_of}
use Rattle.theory.specs.Trees.{leaf_sort, head_sort}
use Rattle.text.specs.declared.form.Form.{Form}
use Rattle.text.specs.declared.form.Form.TheVariants.{Constructor, Alias, Function, Unevaluated, Value, Parameter, LateParameter, Placeholder, Bound, Predicate, OpaquePair, Goal, List, TyKind, RegionKind, ConstKind, PlaceholderKind}
use Rattle.text.specs.declared.build.Numbers.{Numbers}
use Rattle.text.specs.declared.build.Made.{Made}
use Rattle.text.specs.declared.build.Made.TheVariants.{Leaf, Over}

abbrev pub form_sort : Form → Sort
form_sort Constructor = Argument ty
form_sort Alias = Argument ty
form_sort Function = Argument ty
form_sort Unevaluated = Argument const
form_sort Value = Argument const
form_sort (Parameter a) = Argument a
form_sort LateParameter = Argument region
form_sort (Placeholder a) = Argument a
form_sort (Bound a) = Argument a
form_sort Predicate = predicate
form_sort OpaquePair = opaque_pair
form_sort Goal = goal
form_sort (List s) = list_of s
form_sort TyKind = kind
form_sort RegionKind = kind
form_sort ConstKind = kind
form_sort (PlaceholderKind a) = kind

abbrev pub made_sort : Made → Sort
made_sort (Leaf x) = leaf_sort x
made_sort (Over h) = head_sort h

-- a number is there, and below a bound
abbrev pub is_below : ℕ → Option ℕ → Bool
is_below bound None = false
is_below bound (Some n) = nat_lt n bound

-- the numbers that a form is made with are there, at their widths: universes have 16 bits, constants' values 64, all else 32
abbrev pub has_numbers : Form → Numbers → Bool
has_numbers Constructor n = is_below (2 ^ 32) n.last
has_numbers Alias n = is_below (2 ^ 32) n.last
has_numbers Function n = is_below (2 ^ 32) n.last
has_numbers Unevaluated n = is_below (2 ^ 32) n.last
has_numbers Value n = is_below (2 ^ 64) n.last
has_numbers (Parameter a) n = is_below (2 ^ 32) n.last
has_numbers LateParameter n = is_below (2 ^ 32) n.last
has_numbers (Placeholder a) n = is_below (2 ^ 16) n.earlier && is_below (2 ^ 32) n.last
has_numbers (Bound a) n = is_below (2 ^ 32) n.earlier && is_below (2 ^ 32) n.last
has_numbers Predicate n = is_below (2 ^ 32) n.earlier && is_below (2 ^ 32) n.last
has_numbers OpaquePair n = true
has_numbers Goal n = true
has_numbers (List s) n = true
has_numbers TyKind n = is_below (2 ^ 16) n.earlier && is_below (2 ^ 32) n.last
has_numbers RegionKind n = is_below (2 ^ 16) n.last
has_numbers ConstKind n = is_below (2 ^ 16) n.last
has_numbers (PlaceholderKind a) n = is_below (2 ^ 16) n.earlier && is_below (2 ^ 32) n.last
