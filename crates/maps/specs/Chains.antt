-- A hash index: each bucket's chain of entries as a function of the entries' hashes. A bucket names its newest entry, and
-- an entry the newest one before it in its bucket, each by a link: one more than the entry's place, and 0 ends a chain.
-- Of the entries only their hashes and links matter to the chains.
use Rattle.std.specs.Prelude.{◌≡◌, ℕ, zero, suc, ◌%◌, ◌<◌, Bool, true, false, cond, List, length, Some, None, Option, ◌==◌, slice_get, slice_index, IfSome, ⊤}

-- one more than the last k below m with p k, or 0
abbrev pub newest : (ℕ → Bool) → ℕ → ℕ
newest p zero = 0
newest p (suc m) = cond (p m) (suc m) (newest p m)

-- the place that a link names
abbrev pub place_of : ℕ → Option ℕ
place_of zero = None
place_of (suc i) = Some i

-- the entry at k is in bucket b of so many
unfoldable pub on_bucket : List ℕ → ℕ → ℕ → ℕ → Bool
on_bucket hashes size b k = slice_index hashes k % size == b

-- each bucket names its newest entry
abbrev pub Heads : List ℕ → List ℕ → Type 0
Heads hashes hd = (b : ℕ) → b < length hd → slice_index hd b ≡ newest (on_bucket hashes (length hd) b) (length hashes)

-- each entry names the newest before it in its bucket
abbrev pub Nexts : List ℕ → List ℕ → ℕ → Type 0
Nexts hashes links size = (i : ℕ) → i < length hashes → slice_index links i ≡ newest (on_bucket hashes size (slice_index hashes i % size)) i

-- the buckets and the links are those of entries with these hashes
pub record Chained (hashes links buckets : List ℕ) : Type 0 where
  pub firsts : Heads hashes buckets
  pub others : Nexts hashes links (length buckets)

-- k is behind the place that a search answers; behind none is everywhere
abbrev pub IsBehind : Option ℕ → ℕ → Type 0
IsBehind None k = ⊤
IsBehind (Some i) k = i < k

-- What a search for an entry with a hash answers, where Says tells what the test may say of one: the place of the newest entry
-- with the hash of which the test says yes.
pub record Sought {T : Type 0} (hash : T → ℕ) (Says : T → Bool → Type 0) (sought : ℕ) (entries : List T) (answer : Option ℕ) : Type 0 where
  pub found : IfSome answer (λ i. (e : T) × (slice_get entries i ≡ Some e) × (hash e ≡ sought) × Says e true)
  pub passed : (k : ℕ) (e : T) → IsBehind answer k → slice_get entries k ≡ Some e → hash e ≡ sought → Says e false
