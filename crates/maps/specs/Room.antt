-- How much of the lent memory may be used.
use Rattle.std.specs.Prelude.{ℕ, min, cond, ◌==◌}
use Rattle.theory.specs.Limits.{most_entries}

-- how many entries there is memory for: none without a bucket to find them by
abbrev pub limited : ℕ → ℕ → ℕ
limited entries buckets = cond (buckets == 0) 0 (min entries most_entries)
