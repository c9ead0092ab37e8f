-- The first leaf of a term, in walk order, that has one of some flags; and how high a term stands, which falls from a term to
-- its parts.
use Rattle.std.specs.Prelude.{ℕ, ◌+◌, ◌*◌, Bool, true, false, not, List, Some, None, Ok, Option, Result, ◌==◌, bit_and}
use Rattle.theory.specs.declared.words.Leaf.{Leaf}
use Rattle.theory.specs.declared.words.StoreFault.{StoreFault}
use Rattle.theory.specs.Outcomes.{◌>>=◌}
use Rattle.theory.specs.Trees.{Tree, leaf, node, nil, cons, weight, height, leaf_flags}
use Rattle.theory.specs.Store.{found}

abbrev pub or_else : {A : Type 0} → Option A → Option A → Option A
or_else None o = o
or_else (Some a) o = Some a

-- the leaf has one of the flags
abbrev pub flagged : ℕ → Leaf → Bool
flagged bits x = not (bit_and (leaf_flags x) bits == 0)

abbrev pub if_so : Bool → Leaf → Option Leaf
if_so true x = Some x
if_so false x = None

unfoldable pub first_leaf : (Leaf → Bool) → Tree → Option Leaf
first_leaf f (leaf x) = if_so (f x) x
first_leaf f (node h ts) = first_leaf f ts
first_leaf f nil = None
first_leaf f (cons t u) = or_else (first_leaf f t) (first_leaf f u)

-- 1 for a handle that names nothing
unfoldable pub first_flagged : List Tree → ℕ → ℕ → Result (Option Leaf) StoreFault
first_flagged m n bits = found m n >>= λ t. Ok (first_leaf (flagged bits) t)

-- twice the height, and a list half a step above its elements
abbrev pub rank : Tree → ℕ
rank (leaf x) = 2
rank (node h ts) = 2 * height ts + weight h + 1
rank nil = 0
rank (cons t u) = 0
