-- The letter of a sort of variables.
use Rattle.std.specs.Prelude.{ℕ}
use Rattle.theory.specs.declared.words.VariableSort.{VariableSort}
use Rattle.theory.specs.declared.words.VariableSort.TheVariants.{Ty, Int, Float, Region, Const}

-- t, i, f, r and c in ASCII
abbrev pub letter : VariableSort → ℕ
letter Ty = 116
letter Int = 105
letter Float = 102
letter Region = 114
letter Const = 99
