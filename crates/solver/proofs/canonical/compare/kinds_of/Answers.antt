-- No term has more parts than the longest list.
use Rattle.solver.proofs.Smaller.{few_elements}
use Rattle.solver.proofs.canonical.compare.kinds_of.Goals as goal

pub returns : goal.returns
returns c = few_elements c.args.store.now c.args.list c.in_ok-kinds.kinds.now c.in_ok-kinds.ensures.answer c.parts.ensures.whole
