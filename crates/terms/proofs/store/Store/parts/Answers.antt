use Rattle.std.proofs.Common.{◌≡◌, ◌+◌, ◌-◌, drop, take, Ok, ap, ◌∙◌, arith}
use Rattle.std.proofs.lemmas.Result.{err_from_is_err_and}
use Rattle.terms.proofs.Reading.{parts_err, parts_ok, whole}
use Rattle.terms.proofs.store.Store.parts.Goals as goal

pub returns-in_err-e : goal.returns-in_err-e
returns-in_err-e c =
    let p = err_from_is_err_and c.from_residual.result c.from_residual.ensures.1 in
    record {
      answer = rw (p.1, p.2, ← c.self.view_is) (parts_err c.self.inside c.self.invariant c.args.term _ c.in_err-e.ensures);
      whole = rw (← c.self.view_is) (whole c.self.inside c.self.invariant);
    }

pub returns : goal.returns
returns c =
    let e = c.in_ok-e.e in
    let many : e.first + c.count.result - e.first ≡ c.count.result = omega arith in
    record {
      answer = rw (← c.self.view_is)
          (ap (λ k. Ok (take k (drop e.first c.self.inside.items.now))) (many ∙ c.count.ensures) ∙ parts_ok c.self.inside c.self.invariant c.args.term e c.in_ok-e.ensures);
      whole = rw (← c.self.view_is) (whole c.self.inside c.self.invariant);
    }
