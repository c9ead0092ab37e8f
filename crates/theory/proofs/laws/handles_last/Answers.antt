use Rattle.theory.proofs.Growth.{grown-leaf, grown-node, grown-then, grown-back}
use Rattle.theory.proofs.laws.handles_last.Goals as goal

pub returns : goal.returns
returns c = record { by_leaf = grown-leaf; by_node = grown-node; by_stages = grown-then; back = grown-back }
