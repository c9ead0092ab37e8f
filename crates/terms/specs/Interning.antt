-- Finding and adding a tree by its cell: what the two ask for, and what they answer.
use Rattle.std.specs.Prelude.{◌≡◌, ℕ, ◌+◌, ◌<◌, ◌≤◌, Bool, ◌&&◌, true, false, List, length, Some, None, Option, nat_lt, nat_le}
use Rattle.theory.specs.declared.words.Facts.{Facts}
use Rattle.theory.specs.Limits.{highest, longest}
use Rattle.theory.specs.Trees.{Tree, part_count as count, facts}
use Rattle.theory.specs.Store.{Contents, handle, holds, used}
use Rattle.terms.specs.Memory.{Cell, tree_of, fits}

-- a cell whose handles fit its form, as many as the form says
pub record Proper (m : List Tree) (c : Cell) : Type 0 where
  pub fit : fits m c.form c.handles ≡ true
  pub all : count c.form ≡ length c.handles

-- the handle of a tree, or that it is not held
abbrev pub Located : List Tree → Tree → Option ℕ → Type 0
Located m t (Some i) = (holds m t ≡ true) × (handle m t ≡ i)
Located m t None = holds m t ≡ false

-- there is an entry for one more tree, and items for so many parts
abbrev pub room_for : Contents → ℕ → Bool
room_for c n = nat_lt (length c.trees) c.entries && nat_le (used c.trees + n) c.items

-- the tree of a cell may go to the end of what is held, with these facts
pub record Addable (c : Contents) (k : Cell) (f : Facts) : Type 0 where
  pub proper : Proper c.trees k
  pub is : f ≡ facts (tree_of c.trees k)
  pub fresh : holds c.trees (tree_of c.trees k) ≡ false
  pub entry : length c.trees < c.entries
  pub room : used c.trees + length k.handles ≤ c.items
  pub low : f.height ≤ highest
  pub few : length k.handles ≤ longest
