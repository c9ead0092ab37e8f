-- The two terms in hand differ, and the first gets smaller.
use Rattle.std.proofs.Common.{◌≢◌}
use Rattle.solver.specs.Sizes.{size_at}
use Rattle.solver.proofs.canonical.compare.smallest.Given as goal

abbrev pub invariant-loop-p : goal.invariant-loop-p
invariant-loop-p l = l.x ≢ l.y

abbrev pub decreases-loop-p : goal.decreases-loop-p
decreases-loop-p l = size_at l.store.trees l.x
