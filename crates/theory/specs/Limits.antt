-- The limits of the product, each in one place: a term's height, a list's length, the entries of a store and their parts,
-- the names of one goal, the places of a log, its open marks, and the levels of a walk that resolves.
-- The code has the same numbers in src/limits.rt.
use Rattle.std.specs.Prelude.{ℕ}

abbrev pub highest : ℕ
highest = 64

abbrev pub longest : ℕ
longest = 256

abbrev pub most_entries : ℕ
most_entries = 65535

abbrev pub most_items : ℕ
most_items = 16776960

abbrev pub most_names : ℕ
most_names = 256

abbrev pub most_places : ℕ
most_places = 65535

abbrev pub most_marks : ℕ
most_marks = 64

-- the root is at level 1, and the elements of a term at level k are at k + 1
abbrev pub most_levels : ℕ
most_levels = 64
