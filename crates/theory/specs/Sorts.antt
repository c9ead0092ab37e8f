-- The sort of variables that stands for a sort of arguments, and back.
use Rattle.std.specs.Prelude.{Result, Ok, Err}
use Rattle.theory.specs.declared.words.ArgSort.{ArgSort}
use Rattle.theory.specs.declared.words.ArgSort.TheVariants.{Ty as ty, Region as region, Const as const}
use Rattle.theory.specs.declared.words.VariableSort.{VariableSort}
use Rattle.theory.specs.declared.words.VariableSort.TheVariants.{Ty as a_ty, Int as an_int, Float as a_float, Region as a_region, Const as a_const}

abbrev pub of_argument : ArgSort → VariableSort
of_argument ty = a_ty
of_argument region = a_region
of_argument const = a_const

-- integer and float variables are types of some kind, and no sort of arguments is theirs alone
abbrev pub to_argument : VariableSort → Result ArgSort VariableSort
to_argument a_ty = Ok ty
to_argument an_int = Err an_int
to_argument a_float = Err a_float
to_argument a_region = Ok region
to_argument a_const = Ok const
