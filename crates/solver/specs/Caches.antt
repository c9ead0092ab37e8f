-- The results of a walk, each with the round that it was found in.
use Rattle.std.specs.Prelude.{ℕ, cond, List, Some, None, Option, ◌==◌, slice_index_or}
use Rattle.solver.specs.declared.canonical.cache.Cached.{Cached}

abbrev pub kept_in : ℕ → ℕ → Cached
kept_in r x = record { round = r; result = x }

-- rounds are counted from 1
abbrev pub vacant : Cached
vacant = kept_in 0 0

abbrev pub in_round : ℕ → Cached → Option ℕ
in_round r c = cond (c.round == r) (Some c.result) None

-- what a table has for a term in a round
abbrev pub held : ℕ → List Cached → ℕ → Option ℕ
held r cs t = in_round r (slice_index_or cs t vacant)
