use Rattle.std.proofs.Common.{◌≡◌, ◌≤◌, drop}
use Rattle.theory.specs.Limits.{highest}
use Rattle.terms.specs.Survey.{no_facts, surveyed}
use Rattle.terms.proofs.store.Store.survey.Given as goal

-- what is left of the parts gives the whole
abbrev pub invariant-loop-k : goal.invariant-loop-k
invariant-loop-k l =
    record {
      rest : surveyed l.self.trees l.head l.k (drop l.k l.parts) l.all ≡ surveyed l.self.trees l.head 0 l.parts no_facts;
      low : l.all.height ≤ highest;
    }
