-- What the calls of a map answer, over the list of its pairs in the order in which their keys were first inserted.
-- A pair is kept with the digest (hash) of its key; keys that are alike have one digest.
use Rattle.std.specs.Prelude.{◌≡◌, ℕ, zero, suc, ◌≤◌, Bool, false, cond, ◌&&◌, List, [], ◌∷◌, ◌++◌, length, Some, None, Ok, Err, Option as Maybe, Result, ◌==◌, nat_lt}
use Rattle.std.proofs.Math.Option.{Option, none, some}
use Rattle.theory.specs.declared.words.StoreFault.{StoreFault}
use Rattle.theory.specs.declared.words.StoreFault.TheVariants.{Full}
use Rattle.theory.specs.Limits.{most_entries}
use Rattle.theory.specs.Outcomes.{at}
use Rattle.maps.specs.Chains.{newest, place_of}

pub record Pair (K V : Type 0) : Type 0 where
  pub key : K
  pub value : V
  pub digest : ℕ

abbrev pub pair : {K V : Type 0} → K → V → ℕ → Pair K V
pair k v d = record { key = k; value = v; digest = d }

-- what a map is to its user: its pairs, and how many there may be
pub record Table (K V : Type 0) : Type 0 where
  pub pairs : List (Pair K V)
  pub room : ℕ

-- what stands true of every map: its pairs fit into its room, and no map has more than an index can name
abbrev pub IsBounded : {K V : Type 0} → Table K V → Type 0
IsBounded t = (length t.pairs ≤ t.room) × (t.room ≤ most_entries)

-- key and value of the pair at a place
abbrev pub shown : {K V : Type 0} → Option (Pair K V) → Maybe (K × V)
shown none = None
shown (some p) = Some (p.key, p.value)

abbrev pub value_in : {K V : Type 0} → Option (Pair K V) → Maybe V
value_in none = None
value_in (some p) = Some p.value

-- another value in place of that at a place
abbrev pub revalued : {K V : Type 0} → List (Pair K V) → ℕ → V → List (Pair K V)
revalued [] i v = []
revalued (p ∷ ps) zero v = pair p.key v p.digest ∷ ps
revalued (p ∷ ps) (suc i) v = p ∷ revalued ps i v

module _ {K V : Type 0} (alike : K → K → Bool) (digest : K → ℕ) where
  -- the pair is that of a key
  abbrev pub agrees : K → Option (Pair K V) → Bool
  agrees k none = false
  agrees k (some p) = p.digest == digest k && alike p.key k

  unfoldable pub hit : List (Pair K V) → K → ℕ → Bool
  hit ps k i = agrees k (at ps i)

  -- the place of a key's pair
  abbrev pub place : List (Pair K V) → K → Maybe ℕ
  place ps k = place_of (newest (hit ps k) (length ps))

  abbrev pub value_at : List (Pair K V) → Maybe ℕ → Maybe V
  value_at ps None = None
  value_at ps (Some i) = value_in (at ps i)

  -- the value of a key
  abbrev pub found : List (Pair K V) → K → Maybe V
  found ps k = value_at ps (place ps k)

  -- a key's value from now on: in place of its old value, or in a new pair at the end, if there is room (2)
  abbrev pub insert_at : Table K V → K → V → Maybe ℕ → Result (Unit {0}) StoreFault × Table K V
  insert_at t k v None = cond (nat_lt (length t.pairs) t.room) (Ok tt, record t { pairs = t.pairs ++ pair k v (digest k) ∷ [] }) (Err Full, t)
  insert_at t k v (Some i) = (Ok tt, record t { pairs = revalued t.pairs i v })

  unfoldable pub inserted : Table K V → K → V → Result (Unit {0}) StoreFault × Table K V
  inserted t k v = insert_at t k v (place t.pairs k)

  -- where the insertion is accepted, the key and what is alike have the value, and nothing else changes
  abbrev pub ReadsAs : List (Pair K V) → K → V → Bool → List (Pair K V) → Type 0
  ReadsAs ps key value accepted qs =
      (k : K) → found qs k ≡ cond (accepted && alike key k) (Some value) (found ps k)
