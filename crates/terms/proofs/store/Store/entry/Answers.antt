use Rattle.terms.proofs.Reading.{reads, whole}
use Rattle.terms.proofs.store.Store.entry.Goals as goal

pub returns-clause-reads : goal.returns-clause-reads
returns-clause-reads c = rw (← c.self.view_is) (reads c.self.inside c.self.invariant c.args.term c.entry_at.result c.entry_at.ensures)

pub returns-clause-whole : goal.returns-clause-whole
returns-clause-whole c = rw (← c.self.view_is) (whole c.self.inside c.self.invariant)
