use Rattle.terms.proofs.Reading.{whole}
use Rattle.terms.proofs.store.Store.len.Goals as goal

pub returns-clause-whole : goal.returns-clause-whole
returns-clause-whole c = rw (← c.self.view_is) (whole c.self.inside c.self.invariant)
