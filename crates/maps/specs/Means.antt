-- What a map's memory means: the pairs in the slots in use, and the room; and how it is indexed.
use Rattle.std.specs.Prelude.{ℕ, ◌*◌, ◌≤◌, List, map, length, take}
use Rattle.theory.specs.Limits.{most_entries}
use Rattle.maps.specs.declared.slot.Slot.{Slot}
use Rattle.maps.specs.Chains.{Chained}
use Rattle.maps.specs.Pairs.{Pair, pair, Table}

abbrev pub pair_of : {K V : Type 0} → Slot K V → Pair K V
pair_of s = pair s.key s.value s.hash

-- what slots in use and a room mean
abbrev pub table : {K V : Type 0} → List (Slot K V) → ℕ → Table K V
table used limit = record { pairs = map pair_of used; room = limit }

-- the first `len` slots are in use, of which there may be as many as `limit`, and the buckets index them
pub record IsIndexed {K V : Type 0} (slots : List (Slot K V)) (buckets : List ℕ) (len limit : ℕ) : Type 0 where
  pub within : len ≤ limit
  pub few : limit ≤ most_entries
  pub lent : limit ≤ length slots
  pub indexed : limit ≤ most_entries * length buckets
  pub chained : Chained (map (λ s. s.hash) (take len slots)) (map (λ s. s.next) (take len slots)) buckets
