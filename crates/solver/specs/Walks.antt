-- The walk over a part of a goal: what its steps leave as it is, and how many turns it has left.
use Rattle.std.specs.Prelude.{◌≡◌, ℕ, List, sum_by}
use Rattle.theory.specs.Store.{Grown}
use Rattle.solver.specs.declared.canonical.scratch.Open.{Open}
use Rattle.solver.specs.declared.canonical.canonicalizer.Canonicalizer.{Canonicalizer}
use Rattle.solver.specs.Opened.{turns}

-- the terms that are open, the innermost last
abbrev pub opens : Canonicalizer → List Open
opens c = c.tables.now.opened.items

-- terms may have been added, and none was opened or ended
pub record SameOpen (old new : Canonicalizer) : Type 0 where
  pub grown : Grown old.store.now new.store.now
  pub opened : opens new ≡ opens old

abbrev pub turns_left : Canonicalizer → ℕ
turns_left c = sum_by (turns c.store.now.trees) (opens c)
