-- The names of a goal, in the order in which they are met.
use Rattle.std.specs.Prelude.{ℕ, Bool, false, Some, None, Option, ◌==◌}
use Rattle.solver.specs.declared.canonical.names.Name.{Name}

-- a name is this leaf
abbrev pub is_leaf : ℕ → Name → Bool
is_leaf t x = x.original == t

-- the class of a name is this one; only a type variable has one
abbrev pub is_class : Option ℕ → ℕ → Bool
is_class None c = false
is_class (Some b) c = b == c

-- a name is a type variable of this sub class
abbrev pub in_class : ℕ → Name → Bool
in_class c x = is_class x.class c
