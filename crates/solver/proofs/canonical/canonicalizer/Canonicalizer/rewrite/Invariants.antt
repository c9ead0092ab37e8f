-- Each turn leaves fewer.
use Rattle.solver.specs.Walks.{turns_left}
use Rattle.solver.proofs.canonical.canonicalizer.Canonicalizer.rewrite.Given as goal

abbrev pub decreases-loop-open : goal.decreases-loop-open
decreases-loop-open l = turns_left l.self
