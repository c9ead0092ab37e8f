-- The number of a call's refusal: that of the host's fault inside it; 11 canonical variable present; 13 type variable in the
-- environment; 14 environment in the value; 15 a name too many.
use Rattle.std.specs.Prelude.{ℕ, Bool, ◌||◌, ◌==◌}
use Rattle.host.specs.Numbers.{host_number}
use Rattle.host.specs.declared.fault.HostFault.TheVariants.{Store, UnknownVariable}
use Rattle.solver.specs.declared.canonical.CallFault.{CallFault}
use Rattle.solver.specs.declared.canonical.CallFault.TheVariants.{Host, CanonicalPresent, TypeVariableInEnvironment, EnvironmentInValue, TooManyNames}
use Rattle.solver.specs.declared.canonical.fault.GoalFault.{GoalFault}
use Rattle.solver.specs.declared.canonical.fault.GoalFault.TheVariants.{Store as in_store, UnknownVariable as unknown_variable, CanonicalPresent as canonical_present, TypeVariableInEnvironment as type_variable_in_environment, EnvironmentInValue as environment_in_value, TooManyNames as too_many_names}

abbrev pub call_number : CallFault → ℕ
call_number (Host f) = host_number f
call_number (CanonicalPresent t) = 11
call_number (TypeVariableInEnvironment t) = 13
call_number (EnvironmentInValue t) = 14
call_number (TooManyNames t) = 15

-- the refusals of a goal: 1 to 4, 11, and 13 to 15
abbrev pub of_goal : ℕ → Bool
of_goal n = n == 1 || n == 2 || n == 3 || n == 4 || n == 11 || n == 13 || n == 14 || n == 15

-- a fault of canonicalizing a goal as that of the call
abbrev pub goal_fault : GoalFault → CallFault
goal_fault (in_store f) = Host (Store f)
goal_fault (unknown_variable s n) = Host (UnknownVariable s n)
goal_fault (canonical_present t) = CanonicalPresent t
goal_fault (type_variable_in_environment t) = TypeVariableInEnvironment t
goal_fault (environment_in_value t) = EnvironmentInValue t
goal_fault (too_many_names t) = TooManyNames t
