-- A term that ends takes its last turn; one that goes on takes those of its part.
use Rattle.std.proofs.Common.{rules, ◌≡◌, ◌+◌, ◌<◌, sum_by, ap, ◌∙◌, arith}
use Rattle.std.proofs.lemmas.Result.{on_ok_weaker}
use Rattle.std.proofs.lemmas.List.Sums.{sum_by_push}
use Rattle.solver.specs.Opened.{turns}
use Rattle.solver.specs.Walks.{opens}
use Rattle.solver.proofs.Smaller.{part_smaller}
use Rattle.solver.proofs.Turns.{same_turns, last_turn, next_turn}
use Rattle.solver.proofs.canonical.canonicalizer.Canonicalizer.turn.Goals as goal

pub returns-in_default : goal.returns-in_default
returns-in_default c =
    let same = same_turns c.args.self.now c.finish.new.self c.finish.ensures in
    omega (arith, same, last_turn c.args.self.now.store.now.trees c.args.innermost)

pub returns : goal.returns
returns c =
    let m = c.args.self.now.store.now.trees in
    let o = c.args.innermost in
    let pushed = ap (sum_by (turns m)) c.in_ok-put_reserved.ensures.ok ∙ sum_by_push (turns m) (opens c.args.self.now) _ in
    let left : o.places.start < o.places.end = search rules in
    let start : c.next.new.self.start ≡ o.places.start + 1 = search rules in
    let end : c.next.new.self.end ≡ o.places.end = search rules in
    let step = next_turn m o c.in_ok-part.part c.next.new.self.start c.next.new.self.end left start end (part_smaller m o.term c.in-Some.place c.in_ok-part.part c.in_ok-part.ensures.answer) in
    on_ok_weaker c.visit.result (λ l. omega (arith, pushed, step, l)) c.visit.ensures
