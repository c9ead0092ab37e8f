-- A leaf leaves the open terms as they are; what is read is held.
use Rattle.std.proofs.Common.{arith}
use Rattle.solver.proofs.Smaller.{read_held}
use Rattle.solver.proofs.Turns.{same_turns}
use Rattle.solver.proofs.canonical.canonicalizer.Canonicalizer.visit.Goals as goal

pub returns-in_ok-put_reserved-in-Leaf : goal.returns-in_ok-put_reserved-in-Leaf
returns-in_ok-put_reserved-in-Leaf c =
    let same = c.rewrite_leaf.ensures in
    omega (arith, same_turns c.args.self.now c.rewrite_leaf.new.self record { grown = same.grown; opened = same.opened })

pub open_over-requires : goal.open_over-requires
open_over-requires c = read_held c.args.self.now.store.now.trees c.args.term _ c.in_ok-leaf.ensures.answer
