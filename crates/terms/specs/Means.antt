-- What a store means: the trees that its memory holds, and its room; and what stands true of the memory.
use Rattle.std.specs.Prelude.{◌≡◌, ℕ, ◌*◌, ◌≤◌, min, List, [], map, length, take}
use Rattle.theory.specs.Limits.{most_entries, most_items}
use Rattle.theory.specs.Trees.{Tree}
use Rattle.theory.specs.Store.{Contents, OneHandle, used as parts_held}
use Rattle.maps.specs.Chains.{Chained}
use Rattle.maps.specs.Room.{limited}
use Rattle.terms.specs.declared.memory.entry.Entry.{Entry}
use Rattle.terms.specs.declared.store.Store.TheInside.{Inside}
use Rattle.terms.specs.Memory.{held, Kept, Placed, Fitted, Known, Deep, Low}

-- the items and the entries in use
abbrev pub pool_of : Inside → List ℕ
pool_of s = take s.used s.items.now

abbrev pub entries_of : Inside → List Entry
entries_of s = take s.len s.entries.now

abbrev pub trees_of : Inside → List Tree
trees_of s = held (pool_of s) (entries_of s)

abbrev pub means : Inside → Contents
means s = record { trees = trees_of s; entries = s.limit; items = s.room }

-- what stands true of a pool of parts, the entries over it and the buckets that find them
pub record Sound (pool : List ℕ) (es : List Entry) (hd : List ℕ) : Type 0 where
  pub chained : Chained (map (λ e. e.hash) es) (map (λ e. e.next) es) hd
  pub kept : Kept pool es
  pub placed : Placed pool es
  pub fitted : Fitted pool es
  pub known : Known pool es
  pub deep : Deep pool es
  pub low : Low es
  pub sole : OneHandle (held pool es)
  pub counted : length pool ≡ parts_held (held pool es)

-- what stands true of every store: how its numbers lie to each other and to what is lent, and that what is in use is sound
pub record IsIntact (s : Inside) : Type 0 where
  pub within : s.len ≤ s.limit
  pub few : s.limit ≤ most_entries
  pub lent : s.limit ≤ length s.entries.now
  pub indexed : s.limit ≤ most_entries * length s.buckets.now
  pub inside : s.used ≤ s.room
  pub few_items : s.room ≤ most_items
  pub lent_items : s.room ≤ length s.items.now
  pub long : s.len ≡ length (trees_of s)
  pub sound : Sound (pool_of s) (entries_of s) s.buckets.now

-- a store that was made over so many entries, buckets and items
abbrev pub empty : ℕ → ℕ → ℕ → Contents
empty entries buckets items = record { trees = []; entries = limited entries buckets; items = min items most_items }
