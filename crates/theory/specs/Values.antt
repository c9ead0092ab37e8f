-- A foldable value: a list of roots, and a rest that no walk touches. Predicates, environments, answers and states are such values.
-- As a caller holds it, it has the handles of its roots.
use Rattle.std.specs.Prelude.{ℕ, List}

pub record Foldable (R : Type 0) : Type 0 where
  pub roots : List ℕ
  pub rest : R
