-- The number of a refusal.
use Rattle.std.specs.Prelude.{ℕ, Some, None, Option}
use Rattle.solver.specs.Numbers.{call_number}
use Rattle.text.specs.declared.trouble.Trouble.{Trouble}
use Rattle.text.specs.declared.trouble.Trouble.TheVariants.{Bad, Refused, Memory}

-- the number that is shown of a line that a call refuses
abbrev pub refusal : Trouble → Option ℕ
refusal (Bad c) = None
refusal (Refused f) = Some (call_number f)
refusal Memory = None
