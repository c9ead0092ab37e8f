-- What a host answers, by its counts, its places and its table of roots.
use Rattle.std.specs.Prelude.{◌≡◌, ℕ, ◌+◌, ◌<◌, min, max, Bool, true, false, cond, List, [], ◌∷◌, ◌++◌, Ok, Err, vec_items, vec_len, Result, ◌==◌, nat_lt, slice_index}
use Rattle.host.specs.declared.fault.HostFault.{HostFault}
use Rattle.host.specs.declared.fault.HostFault.TheVariants.{UnknownVariable, UnknownUniverse, LogFull}
use Rattle.host.specs.Numbers.{sort_index}
use Rattle.theory.specs.declared.words.VariableSort.{VariableSort}
use Rattle.theory.specs.declared.words.VariableSort.TheVariants.{Ty, Int, Float, Region, Const}
use Rattle.host.specs.declared.plain.PlainHost.{PlainHost}

-- how many variables of a sort there are
abbrev pub count : PlainHost → VariableSort → ℕ
count h s = slice_index h.counts (sort_index s)

-- there is a place for one more event
abbrev pub has_place : PlainHost → Bool
has_place h = nat_lt h.used h.places

-- whether a place is taken, or 5
abbrev pub placed : PlainHost → Result (Unit {0}) HostFault
placed h = cond (has_place h) (Ok tt) (Err LogFull)

-- opening a universe gives the next number, where the log has a place and the number fits its type
abbrev pub opened : PlainHost → Result ℕ HostFault
opened h = cond (has_place h) (cond (nat_lt (h.universes + 1) 65536) (Ok (h.universes + 1)) (Err LogFull)) (Err LogFull)

-- whether a variable may be made in a universe: 4 for an unopened one, then 5
abbrev pub makeable : PlainHost → ℕ → Result (Unit {0}) HostFault
makeable h u = cond (nat_lt h.universes u) (Err (UnknownUniverse u)) (placed h)

-- a variable gets the next number of its sort: 4 for an unopened universe, then 5
abbrev pub made : PlainHost → VariableSort → ℕ → Result ℕ HostFault
made h s u = cond (nat_lt h.universes u) (Err (UnknownUniverse u)) (cond (has_place h) (Ok (count h s)) (Err LogFull))

-- the root of a type variable's sub class, or 4
abbrev pub rooted : PlainHost → ℕ → Result ℕ HostFault
rooted h v = cond (nat_lt v (vec_len h.roots)) (Ok (slice_index (vec_items h.roots) v)) (Err (UnknownVariable Ty v))

-- two classes become one: nothing happens where they are one already; else a place is taken, or 5
abbrev pub joined_at : PlainHost → Result ℕ HostFault → Result ℕ HostFault → Result Bool HostFault
joined_at h (Err e) y = Err e
joined_at h (Ok x) (Err e) = Err e
joined_at h (Ok x) (Ok y) = cond (x == y) (Ok false) (cond (has_place h) (Ok true) (Err LogFull))

abbrev pub joined : PlainHost → ℕ → ℕ → Result Bool HostFault
joined h a b = joined_at h (rooted h a) (rooted h b)

-- the variables of one sort that are made when one of another is
abbrev pub one_more : VariableSort → VariableSort → ℕ
one_more s t = cond (sort_index s == sort_index t) 1 0

-- after a place is taken: all else is as it was
pub record PlaceTaken (h k : PlainHost) : Type 0 where
  pub places : k.places ≡ h.places
  pub used : k.used ≡ h.used + 1
  pub universes : k.universes ≡ h.universes
  pub counts : k.counts ≡ h.counts
  pub roots : k.roots ≡ h.roots

-- after the universe n is opened: one place less, and the variables as they were
pub record UniverseOpened (h k : PlainHost) (n : ℕ) : Type 0 where
  pub places : k.places ≡ h.places
  pub used : k.used ≡ h.used + 1
  pub universes : k.universes ≡ n
  pub counts : (s : VariableSort) → count k s ≡ count h s
  pub roots : k.roots ≡ h.roots

-- the table of roots once one more variable of a sort is there: a type variable is alone in its class
abbrev pub roots_with : VariableSort → PlainHost → List ℕ
roots_with Ty h = vec_items h.roots ++ vec_len h.roots ∷ []
roots_with Int h = vec_items h.roots
roots_with Float h = vec_items h.roots
roots_with Region h = vec_items h.roots
roots_with Const h = vec_items h.roots

-- after a variable of a sort is made: one place less, one more of the sort, and the classes as they were
pub record Grown (s : VariableSort) (h k : PlainHost) : Type 0 where
  pub places : k.places ≡ h.places
  pub used : k.used ≡ h.used + 1
  pub universes : k.universes ≡ h.universes
  pub counts : (t : VariableSort) → count k t ≡ count h t + one_more s t
  pub roots : vec_items k.roots ≡ roots_with s h

-- nothing has happened
pub record Fresh (places : ℕ) (h : PlainHost) : Type 0 where
  pub log : h.places ≡ places
  pub used : h.used ≡ 0
  pub universes : h.universes ≡ 0
  pub counts : (s : VariableSort) → count h s ≡ 0
  pub types : vec_items h.roots ≡ []

-- after a join that takes a place, the classes with the roots x and y have the lower of them
abbrev pub Merged : ℕ → ℕ → PlainHost → PlainHost → Type 0
Merged x y h k = (v : ℕ) → v < vec_len h.roots → slice_index (vec_items k.roots) v ≡ cond (slice_index (vec_items h.roots) v == max x y) (min x y) (slice_index (vec_items h.roots) v)

-- and all else but the place is as it was
pub record ClassesJoined (x y : ℕ) (h k : PlainHost) : Type 0 where
  pub places : k.places ≡ h.places
  pub used : k.used ≡ h.used + 1
  pub universes : k.universes ≡ h.universes
  pub counts : (s : VariableSort) → count k s ≡ count h s
  pub types : vec_len k.roots ≡ vec_len h.roots
  pub merged : Merged x y h k

abbrev pub AfterJoin : ℕ → ℕ → PlainHost → PlainHost → Bool → Type 0
AfterJoin a b h k false = k ≡ h
AfterJoin a b h k true = ClassesJoined (slice_index (vec_items h.roots) a) (slice_index (vec_items h.roots) b) h k
