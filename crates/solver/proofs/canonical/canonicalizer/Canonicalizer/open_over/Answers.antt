-- A term that is opened has no more parts than a number of places counts.
use Rattle.std.proofs.Common.{◌+◌, ◌*◌, ◌^◌, ◌≤◌, List, sum_by, refl, sym, subst, arith}
use Rattle.std.proofs.lemmas.Result.{on_ok_weaker}
use Rattle.solver.specs.declared.canonical.scratch.Open.{Open}
use Rattle.solver.specs.Sizes.{size_at}
use Rattle.solver.specs.Opened.{turns, turns_of_size}
use Rattle.solver.specs.Walks.{opens, turns_left}
use Rattle.solver.proofs.Turns.{opened_turns}
use Rattle.solver.proofs.canonical.canonicalizer.Canonicalizer.open_over.Goals as goal

pub returns : goal.returns
returns c =
    let m = c.args.self.now.store.now.trees in
    on_ok_weaker c.put_reserved-2.result
    (λ e.
    subst (λ (os : List Open). sum_by (turns m) os ≤ turns_left c.args.self.now + 2 ^ 64 * turns_of_size (size_at m c.args.term)) (sym e)
    (opened_turns m (opens c.args.self.now) _ refl (omega arith)))
    c.put_reserved-2.ensures.ok
