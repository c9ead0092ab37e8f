-- A number at another width.
use Rattle.std.specs.Prelude.{◌≡◌, ℕ, Result, Option}
use Rattle.std.specs.Result.{result_ok}

-- what the conversion to the width makes of the number
abbrev pub Fits : {N E : Type 0} → (ℕ → Result N E → Type 0) → ℕ → Option N → Type 0
Fits {N = N} {E = E} gives number o = (r : Result N E) × gives number r × (o ≡ result_ok r)
