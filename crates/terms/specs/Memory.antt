-- What the memory of a store means: each entry a form over the handles of its parts, and so a tree over trees that stand
-- before it.
use Rattle.std.specs.Prelude.{◌≡◌, ℕ, ◌+◌, ◌<◌, ◌≤◌, Bool, true, false, List, [], ◌∷◌, ◌++◌, map, length, get_or, take, drop, Ok, Err, Result, slice_index_or}
use Rattle.theory.specs.declared.words.Leaf.TheVariants.{Variable}
use Rattle.theory.specs.declared.words.VarSort.TheVariants.{Ty as v_ty}
use Rattle.theory.specs.declared.words.Node.{Node}
use Rattle.theory.specs.declared.words.Node.TheVariants.{Leaf as ALeaf, Over}
use Rattle.theory.specs.declared.words.StoreFault.{StoreFault}
use Rattle.theory.specs.Limits.{highest, longest}
use Rattle.theory.specs.Trees.{Tree, leaf, nil, part_count as count, assembled, height, flags, outer}
use Rattle.theory.specs.Store.{checked, used}
use Rattle.terms.specs.declared.memory.entry.Entry.{Entry}
use Rattle.terms.specs.Hash.{hashed}

-- a form over the handles of its parts
pub record Cell : Type 0 where
  pub form : Node
  pub handles : List ℕ

abbrev pub cell : Node → List ℕ → Cell
cell v ns = record { form = v; handles = ns }

-- the cell of an entry, whose parts stand in the pool
abbrev pub cell_of : List ℕ → Entry → Cell
cell_of pool e = cell e.node (take (count e.node) (drop e.first pool))

-- an entry that nothing was stored in
abbrev pub vacant : Entry
vacant =
    record {
      node = ALeaf (Variable v_ty 0);
      first = 0;
      hash = 0;
      next = 0;
      facts = record { height = 0; flags = record { bits = 0 }; outer = 0 };
    }

-- the entry at a place has that form over those parts
abbrev pub IsAt : List ℕ → List Entry → Cell → ℕ → Type 0
IsAt pool es c k = cell_of pool (slice_index_or es k vacant) ≡ c

-- the tree of a cell over trees
abbrev pub formed : Node → List Tree → Tree
formed (ALeaf x) ts = leaf x
formed (Over h n) ts = assembled h ts

abbrev pub tree_of : List Tree → Cell → Tree
tree_of m c = formed c.form (map (λ n. get_or m n nil) c.handles)

-- the trees of cells, each over those before it
abbrev pub grown : List Tree → List Cell → List Tree
grown m [] = m
grown m (c ∷ cs) = grown (m ++ (tree_of m c ∷ [])) cs

abbrev pub held : List ℕ → List Entry → List Tree
held pool es = grown [] (map (cell_of pool) es)

-- What stands true of each entry

-- its parts stand in the pool
abbrev pub Within : List ℕ → Entry → Type 0
Within pool e = e.first + count e.node ≤ length pool

abbrev pub accepted : Result (List Tree) StoreFault → Bool
accepted (Ok ts) = true
accepted (Err f) = false

-- the handles fit the form, over trees that stand before
abbrev pub fits : List Tree → Node → List ℕ → Bool
fits m (ALeaf x) [] = true
fits m (ALeaf x) (n ∷ ns) = false
fits m (Over h k) ns = accepted (checked m h 0 ns)

abbrev pub handles_at : List ℕ → List Entry → ℕ → List ℕ
handles_at pool es i = (cell_of pool (slice_index_or es i vacant)).handles

-- its parts stand in the pool, and its hash is that of its form and parts
abbrev pub Kept : List ℕ → List Entry → Type 0
Kept pool es =
    (i : ℕ) → i < length es → Within pool (slice_index_or es i vacant) × ((get_or es i vacant).hash ≡ hashed (get_or es i vacant).node (handles_at pool es i))

-- its parts stand right behind those of the entries before it
abbrev pub Placed : List ℕ → List Entry → Type 0
Placed pool es = (i : ℕ) → i < length es → (get_or es i vacant).first ≡ used (take i (held pool es))

-- its parts stand before it, and fit its form
abbrev pub Fitted : List ℕ → List Entry → Type 0
Fitted pool es = (i : ℕ) → i < length es → fits (take i (held pool es)) (get_or es i vacant).node (handles_at pool es i) ≡ true

-- what was found of its tree is right
abbrev pub Known : List ℕ → List Entry → Type 0
Known pool es =
    (i : ℕ) → i < length es → ((get_or es i vacant).facts.height ≡ height (slice_index_or (held pool es) i nil)) × ((get_or es i vacant).facts.flags.bits ≡ flags (slice_index_or (held pool es) i nil))

abbrev pub Deep : List ℕ → List Entry → Type 0
Deep pool es = (i : ℕ) → i < length es → (get_or es i vacant).facts.outer ≡ outer (slice_index_or (held pool es) i nil)

-- its tree is not too high, and has not too many parts
abbrev pub Low : List Entry → Type 0
Low es = (i : ℕ) → i < length es → ((get_or es i vacant).facts.height ≤ highest) × (count (get_or es i vacant).node ≤ longest)
