-- Adding only grows the store.
use Rattle.std.proofs.Common.{refl, ap}
use Rattle.theory.proofs.Growth.{grown-leaf}
use Rattle.solver.proofs.Turns.{still_held}
use Rattle.solver.proofs.canonical.canonicalizer.Canonicalizer.rewrite_leaf.Goals as goal

pub invariant_of-self-2 : goal.invariant_of-self-2
invariant_of-self-2 c =
    record { held = still_held c.args.self.now c.add_leaf.new.self (rw (ap (λ p. p.1) c.add_leaf.ensures.answer) (grown-leaf c.args.self.now.store.now _)) }

pub returns-in_err-add_leaf : goal.returns-in_err-add_leaf
returns-in_err-add_leaf c =
    record { grown = rw (ap (λ p. p.1) c.add_leaf.ensures.answer) (grown-leaf c.args.self.now.store.now _); opened = refl }

pub returns : goal.returns
returns c =
    record { grown = rw (ap (λ p. p.1) c.add_leaf.ensures.answer) (grown-leaf c.args.self.now.store.now _); opened = refl }
