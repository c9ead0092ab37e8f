-- Why a call refuses: a store's fault stands whole inside that of a host, and that inside the fault of the call above.
-- Each fault has the number that a user is shown, its layer, and the term at which it was met, where there is one.
use Rattle.std.specs.Prelude.{ℕ, cond, nat_lt}
use Rattle.std.proofs.Math.Option.{Option, none, some}
use Rattle.theory.specs.declared.words.Kind.{Kind}
use Rattle.theory.specs.declared.words.Leaf.{Leaf}
use Rattle.theory.specs.declared.words.Leaf.TheVariants.{Kind as AKind}
use Rattle.theory.specs.declared.words.StoreFault.{StoreFault}
use Rattle.theory.specs.Outcomes.{store_number}
use Rattle.theory.specs.Trees.{Tree, leaf}

pub data HostFault : Type 0 where
  -- a store's fault, whole
  in_store : StoreFault → HostFault
  -- 3: a walk that resolves met this term below the last level
  too_deep : Tree → HostFault
  -- 4: a variable that was not made: this one, or one given by its number; a universe that was not opened
  unknown_variable : Leaf → HostFault
  unknown_number : HostFault
  unknown_universe : HostFault
  -- 5: no place is left in the log; no mark more can be open
  log_full : HostFault
  marks_full : HostFault
  -- 6: the left of two terms that cannot be equal, resolved
  clash : Tree → HostFault
  -- 7: the variable stands inside the term that it would be bound to
  inside_itself : Leaf → HostFault
  -- 8: a placeholder type or constant above the variable's universe
  above_universe : Leaf → HostFault
  -- 9: a bound variable leaves its binder
  leaves_binder : Leaf → HostFault
  -- 10
  not_newest : HostFault

pub data Fault : Type 0 where
  -- a host's fault, whole
  in_host : HostFault → Fault
  -- 11: the first root that holds a canonical variable
  canonical_present : Tree → Fault
  -- 12: a variable that is bound
  is_bound : Leaf → Fault
  -- 13: a type variable in a goal's environment
  type_in_environment : Leaf → Fault
  -- 14: an environment, even an empty one, in a predicate value
  environment_in_value : Tree → Fault
  -- 15: the leaf that would be a name too many
  too_many_names : Leaf → Fault
  -- 16: a parameter in a response
  parameter_in_response : Leaf → Fault
  -- 17: in a response, a region placeholder of a universe from 1 to the largest input universe
  placeholder_of_input : Leaf → Fault
  -- 18: the first kind whose universe is above the answer's largest
  universe_too_large : Kind → Fault
  -- 19: as many values as original values are wanted
  lengths_differ : Fault
  -- 20: a value of bound form, or a canonical variable whose number has no kind
  not_canonical : Leaf → Fault
  -- 21: the sub root of this kind names no type variable, or its number no original value
  nothing_named : Kind → Fault
  -- 22: the canonical variable would become a term of another sort
  wrong_sort : Leaf → Fault
  -- 23: the constant on the left of an outlives
  constant_outlives : Tree → Fault
  -- 24: a bound variable whose depth is beyond the levels
  beyond_levels : Leaf → Fault
  -- 25: a placeholder whose universe is in no level
  in_no_level : Leaf → Fault

-- a store's fault, as a call above the host gives it
abbrev pub from_store : StoreFault → Fault
from_store f = in_host (in_store f)

-- Numbers

unfoldable pub host_number : HostFault → ℕ
host_number (in_store f) = store_number f
host_number (too_deep t) = 3
host_number (unknown_variable x) = 4
host_number unknown_number = 4
host_number unknown_universe = 4
host_number log_full = 5
host_number marks_full = 5
host_number (clash t) = 6
host_number (inside_itself x) = 7
host_number (above_universe x) = 8
host_number (leaves_binder x) = 9
host_number not_newest = 10

unfoldable pub fault_number : Fault → ℕ
fault_number (in_host f) = host_number f
fault_number (canonical_present t) = 11
fault_number (is_bound x) = 12
fault_number (type_in_environment x) = 13
fault_number (environment_in_value t) = 14
fault_number (too_many_names x) = 15
fault_number (parameter_in_response x) = 16
fault_number (placeholder_of_input x) = 17
fault_number (universe_too_large k) = 18
fault_number lengths_differ = 19
fault_number (not_canonical x) = 20
fault_number (nothing_named k) = 21
fault_number (wrong_sort x) = 22
fault_number (constant_outlives t) = 23
fault_number (beyond_levels x) = 24
fault_number (in_no_level x) = 25

-- Layers: 1 to 3 are the store's, 4 to 10 the host's, 11 to 17 of canonicalizing, 18 to 23 of applying, 24 and 25 of swapping

pub data Layer : Type 0 where
  of_store : Layer
  of_host : Layer
  of_canonicalizing : Layer
  of_applying : Layer
  of_swapping : Layer

unfoldable pub layer_of : ℕ → Layer
layer_of n =
    cond (nat_lt n 4) of_store
    (cond (nat_lt n 11) of_host (cond (nat_lt n 18) of_canonicalizing (cond (nat_lt n 24) of_applying of_swapping)))

unfoldable pub fault_layer : Fault → Layer
fault_layer f = layer_of (fault_number f)

-- Terms

unfoldable pub host_term : HostFault → Option Tree
host_term (in_store f) = none
host_term (too_deep t) = some t
host_term (unknown_variable x) = some (leaf x)
host_term unknown_number = none
host_term unknown_universe = none
host_term log_full = none
host_term marks_full = none
host_term (clash t) = some t
host_term (inside_itself x) = some (leaf x)
host_term (above_universe x) = some (leaf x)
host_term (leaves_binder x) = some (leaf x)
host_term not_newest = none

unfoldable pub fault_term : Fault → Option Tree
fault_term (in_host f) = host_term f
fault_term (canonical_present t) = some t
fault_term (is_bound x) = some (leaf x)
fault_term (type_in_environment x) = some (leaf x)
fault_term (environment_in_value t) = some t
fault_term (too_many_names x) = some (leaf x)
fault_term (parameter_in_response x) = some (leaf x)
fault_term (placeholder_of_input x) = some (leaf x)
fault_term (universe_too_large k) = some (leaf (AKind k))
fault_term lengths_differ = none
fault_term (not_canonical x) = some (leaf x)
fault_term (nothing_named k) = some (leaf (AKind k))
fault_term (wrong_sort x) = some (leaf x)
fault_term (constant_outlives t) = some t
fault_term (beyond_levels x) = some (leaf x)
fault_term (in_no_level x) = some (leaf x)
