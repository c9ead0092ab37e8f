use Rattle.std.proofs.Common.{arith, rules}
use Rattle.terms.proofs.Interned.{located, found_below}
use Rattle.terms.proofs.Reading.{whole}
use Rattle.terms.proofs.store.Store.locate.Goals as goal

pub overflow_cast-result : goal.overflow_cast-result
overflow_cast-result c = omega (arith, found_below _ c.self.invariant _ _ _ c.in_ok-place.ensures)

pub returns-in_err-place-clause-place : goal.returns-in_err-place-clause-place
returns-in_err-place-clause-place c =
    rw c.from_residual.ensures
    (located _ c.self.invariant _ _ _ c.self.view_is _ c.requires.proper (λ e b says. search rules) c.requires.hash _ c.in_err-place.ensures)

pub returns-clause-place : goal.returns-clause-place
returns-clause-place c = located _ c.self.invariant _ _ _ c.self.view_is _ c.requires.proper (λ e b says. search rules) c.requires.hash _ c.in_ok-place.ensures

pub returns-in_err-place-clause-whole : goal.returns-in_err-place-clause-whole
returns-in_err-place-clause-whole c = rw (← c.self.view_is) (whole c.self.inside c.self.invariant)

pub returns-clause-whole : goal.returns-clause-whole
returns-clause-whole c = rw (← c.self.view_is) (whole c.self.inside c.self.invariant)
