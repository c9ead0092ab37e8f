use Rattle.std.proofs.Common.{◌+◌, Ok, sym, ap, ◌∙◌, arith}
use Rattle.std.proofs.lemmas.Result.{err_from_is_err_and}
use Rattle.theory.specs.declared.words.Facts.{Facts}
use Rattle.terms.specs.Survey.{surveyed}
use Rattle.terms.proofs.Surveys.{pass_refused, pass_accepted, step_missing, step_bad, step_more, end_bad, end_ok}
use Rattle.terms.proofs.store.Store.survey.Goals as goal

pub returns-in_err-e-clause-answer : goal.returns-in_err-e-clause-answer
returns-in_err-e-clause-answer c =
    let m = c.args.self.now in
    let l = c.loop-k in
    let p = err_from_is_err_and c.from_residual.result c.from_residual.ensures.1 in
    rw (p.1, p.2)
    (pass_refused m c.args.head c.args.parts.now _
    (step_missing m.trees c.args.head l.k c.args.parts.now c.loop-k-test.true l.all _ c.in_err-e.ensures.reads.form ∙ l.invariant.rest))

pub returns-then-not-takes_part-clause-answer : goal.returns-then-not-takes_part-clause-answer
returns-then-not-takes_part-clause-answer c =
    let m = c.args.self.now in
    let l = c.loop-k in
    pass_refused m c.args.head c.args.parts.now _
    (step_bad m.trees c.args.head l.k c.args.parts.now c.loop-k-test.true l.all c.in_ok-e.e.node c.in_ok-e.ensures.reads.form (sym c.if-not-takes_part.ensures) ∙ l.invariant.rest)

pub loop-k-preserved : goal.loop-k-preserved
loop-k-preserved c =
    let m = c.args.self.now.trees in
    let l = c.loop-k in
    let e = c.in_ok-e.e in
    let r = c.in_ok-e.ensures.reads in
    record {
      rest =
          ap (surveyed m c.args.head (l.k + 1) _) c.join_facts-all.ensures
          ∙ step_more m c.args.head l.k c.args.parts.now c.loop-k-test.true l.all e.node e.facts r.form r.facts (sym c.if-not-takes_part.ensures) ∙ l.invariant.rest;
      low = omega (arith, r.low, l.invariant.low, ap (λ (f : Facts). f.height) c.join_facts-all.ensures);
    }

pub returns-then-parts-least_parts-clause-answer : goal.returns-then-parts-least_parts-clause-answer
returns-then-parts-least_parts-clause-answer c =
    let m = c.args.self.now in
    let l = c.loop-k in
    pass_refused m c.args.head c.args.parts.now _
    (end_bad m.trees c.args.head l.k c.args.parts.now (omega arith) l.all (omega (arith, c.least_parts.ensures, c.if-parts-least_parts.true)) ∙ l.invariant.rest)

pub returns-clause-answer : goal.returns-clause-answer
returns-clause-answer c =
    let m = c.args.self.now in
    let l = c.loop-k in
    pass_accepted m c.args.head c.args.parts.now _
    (ap Ok c.top_facts.ensures
    ∙ end_ok m.trees c.args.head l.k c.args.parts.now (omega arith) l.all (omega (arith, c.least_parts.ensures, c.if-parts-least_parts.false)) ∙ l.invariant.rest)
