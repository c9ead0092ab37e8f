use Rattle.std.proofs.Common.{◌≡◌, length}
use Rattle.theory.specs.Store.{cut_back}
use Rattle.terms.proofs.store.Store.cut.Given as goal

abbrev pub invariant-loop-self : goal.invariant-loop-self
invariant-loop-self l = cut_back l.self l.len ≡ cut_back l.initial.self l.len

abbrev pub decreases-loop-self : goal.decreases-loop-self
decreases-loop-self l = length l.self.trees
