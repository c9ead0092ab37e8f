-- A part is smaller than its term.
use Rattle.solver.proofs.Smaller.{element_smaller}
use Rattle.solver.proofs.canonical.compare.differing_parts.Goals as goal

pub returns-in-Some-clause-smaller : goal.returns-in-Some-clause-smaller
returns-in-Some-clause-smaller c = element_smaller c.args.store.now c.args.a c.in_ok-xs.xs.now c.in_ok-xs.ensures.answer c.in-Some.place c.in-Some.ensures.0
