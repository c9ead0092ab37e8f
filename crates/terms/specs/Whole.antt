-- What stands true of every store, by what it means: its room, that equal terms have one handle, and how each term is made
-- of those before it.
use Rattle.std.specs.Prelude.{◌≡◌, ℕ, ◌<◌, ◌≤◌, List, length, take, slice_index_or}
use Rattle.theory.specs.Limits.{most_entries, most_items, highest, longest}
use Rattle.theory.specs.Trees.{Tree, nil, parts, height}
use Rattle.theory.specs.Store.{Contents, OneHandle, used}
use Rattle.terms.specs.Memory.{Cell, tree_of}
use Rattle.terms.specs.Interning.{Proper}

-- the tree at a place is that of a cell over the trees before it
pub record IsMade (m : List Tree) (i : ℕ) : Type 0 where
  pub own : Cell
  pub proper : Proper (take i m) own
  pub tree : slice_index_or m i nil ≡ tree_of (take i m) own

pub record IsWhole (c : Contents) : Type 0 where
  pub within : length c.trees ≤ c.entries
  pub few : c.entries ≤ most_entries
  pub inside : used c.trees ≤ c.items
  pub few_items : c.items ≤ most_items
  pub sole : OneHandle c.trees
  pub made : (i : ℕ) → i < length c.trees → IsMade c.trees i
  pub low : (i : ℕ) → i < length c.trees → (height (slice_index_or c.trees i nil) ≤ highest) × (length (parts (slice_index_or c.trees i nil)) ≤ longest)
