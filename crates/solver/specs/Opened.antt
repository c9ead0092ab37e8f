-- The terms that are open on a walk over a part of a goal, and how many turns each has left.
use Rattle.std.specs.Prelude.{ℕ, ◌+◌, ◌-◌, ◌*◌, ◌^◌, ◌<◌, List, length, All}
use Rattle.theory.specs.Trees.{Tree}
use Rattle.solver.specs.declared.canonical.scratch.Open.{Open}
use Rattle.solver.specs.Sizes.{size_at}

abbrev pub IsHeld : List Tree → Open → Type 0
IsHeld m o = o.term < length m

abbrev pub AllHeld : List Tree → List Open → Type 0
AllHeld m os = All (IsHeld m) os

-- more than the turns of a term that has as many parts as a number of places can count, each of the size before
abbrev pub turns_of_size : ℕ → ℕ
turns_of_size n = (2 ^ 64 + 1) ^ n

-- the turns of an open term, at most: one to end it, and those of the parts that are left
abbrev pub turns : List Tree → Open → ℕ
turns m o = (o.places.end - o.places.start + 1) * turns_of_size (size_at m o.term)
