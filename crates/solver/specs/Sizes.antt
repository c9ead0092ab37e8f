-- How large a term is: larger than each of its parts, so that what goes down from a term to a part ends.
use Rattle.std.specs.Prelude.{ℕ, ◌+◌, ◌*◌, cond, List, slice_index_or}
use Rattle.theory.specs.Trees.{Tree, leaf, node, nil, cons, applies}

-- a node over one list of arguments stands above the node of that list, which is over the same trees
abbrev pub size : Tree → ℕ
size (leaf x) = 1
size (node h ts) = 2 * size ts + cond (applies h) 2 1
size nil = 0
size (cons t u) = 1 + size t + size u

-- that of the term at a handle
abbrev pub size_at : List Tree → ℕ → ℕ
size_at m n = size (slice_index_or m n nil)
