-- Adding only grows the store.
use Rattle.std.proofs.Common.{refl, ap}
use Rattle.theory.proofs.Growth.{grown-node}
use Rattle.solver.proofs.Turns.{still_held}
use Rattle.solver.proofs.canonical.canonicalizer.Canonicalizer.finish.Goals as goal

pub invariant_of-self : goal.invariant_of-self
invariant_of-self c =
    record { held = still_held c.args.self.now c.add.new.self (rw (ap (λ p. p.1) c.add.ensures.answer) (grown-node c.args.self.now.store.now c.args.ended.head c.in-Some.parts.now)) }

pub invariant_of-self-2 : goal.invariant_of-self-2
invariant_of-self-2 c =
    record { held = still_held c.args.self.now c.add.new.self (rw (ap (λ p. p.1) c.add.ensures.answer) (grown-node c.args.self.now.store.now c.args.ended.head c.in-Some.parts.now)) }

pub returns-in_err-result-in-Some : goal.returns-in_err-result-in-Some
returns-in_err-result-in-Some c =
    record { grown = rw (ap (λ p. p.1) c.add.ensures.answer) (grown-node c.args.self.now.store.now c.args.ended.head c.in-Some.parts.now); opened = refl }

pub returns : goal.returns
returns c =
    record { grown = rw (ap (λ p. p.1) c.add.ensures.answer) (grown-node c.args.self.now.store.now c.args.ended.head c.in-Some.parts.now); opened = refl }
