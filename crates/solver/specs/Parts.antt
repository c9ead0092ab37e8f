-- The parts of a goal.
use Rattle.std.specs.Prelude.{ℕ}
use Rattle.solver.specs.declared.canonical.Goal.{Goal}
use Rattle.solver.specs.declared.canonical.forms.Part.{Part}
use Rattle.solver.specs.declared.canonical.forms.Part.TheVariants.{Environment, Value, Opaques}

-- the term that stands in a part
abbrev pub term_in : Part → Goal → ℕ
term_in Environment g = g.env
term_in Value g = g.value
term_in Opaques g = g.opaques
