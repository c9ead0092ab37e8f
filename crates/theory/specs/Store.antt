-- A store by what it means: the trees that it holds, in order, and its room. A handle is a place in that list.
-- Nothing held ever changes; a new tree goes to the end.
use Rattle.std.specs.Prelude.{◌≡◌, ℕ, suc, ◌+◌, ◌<◌, Bool, cond, ◌&&◌, List, [], ◌∷◌, ◌++◌, map, length, take, Ok, Err, Result, nat_le, nat_lt, slice_index_or}
use Rattle.std.proofs.Math.Option.{Option, none, some}
use Rattle.theory.specs.declared.words.Leaf.{Leaf}
use Rattle.theory.specs.declared.words.Head.{Head}
use Rattle.theory.specs.declared.words.Node.{Node}
use Rattle.theory.specs.declared.words.Sort.{Sort}
use Rattle.theory.specs.declared.words.Facts.{Facts}
use Rattle.theory.specs.declared.words.StoreFault.{StoreFault}
use Rattle.theory.specs.declared.words.StoreFault.TheVariants.{NoSuch, BadPart, Full, TooHigh, TooLong}
use Rattle.theory.specs.Limits.{highest, longest}
use Rattle.theory.specs.Outcomes.{◌>>=◌, given, answered, must, test, at}
use Rattle.theory.specs.Trees.{Tree, leaf, nil, tree?, parts, seen, node_sort, same_sort, assembled, takes, least, height, facts}

-- the trees held, and how many entries and parts of entries there is memory for
pub record Contents : Type 0 where
  pub trees : List Tree
  pub entries : ℕ
  pub items : ℕ

-- the handle of a tree: the place where it first stands, or the count of the trees where it is not held
abbrev pub handle : List Tree → Tree → ℕ
handle [] t = 0
handle (u ∷ us) t = cond (test (tree? u t)) 0 (suc (handle us t))

abbrev pub holds : List Tree → Tree → Bool
holds m t = nat_lt (handle m t) (length m)

-- the parts of all that is held
abbrev pub used : List Tree → ℕ
used [] = 0
used (t ∷ ts) = length (parts t) + used ts

-- there is an entry for one more tree, and items for its parts
abbrev pub has_room : Contents → Tree → Bool
has_room c t = nat_lt (length c.trees) c.entries && nat_le (used c.trees + length (parts t)) c.items

abbrev pub with_tree : Contents → Tree → Contents
with_tree c t = record { trees = c.trees ++ (t ∷ []); entries = c.entries; items = c.items }

-- A tree is put: nothing changes where it is held already; else it is refused if there is no room (2), if it is too high
-- or has too many parts (3); else it goes to the end.
abbrev pub put_new : Contents → Tree → Result (ℕ × Contents) StoreFault
put_new c t =
    cond (has_room c t)
    (cond (nat_lt highest (height t)) (Err TooHigh) (cond (nat_lt longest (length (parts t))) (Err TooLong) (Ok (length c.trees, with_tree c t))))
    (Err Full)

unfoldable pub put : Contents → Tree → Result (ℕ × Contents) StoreFault
put c t = cond (holds c.trees t) (Ok (handle c.trees t, c)) (put_new c t)

-- A tree is put, and its handle is not asked for.
unfoldable pub stored : Contents → Tree → Result Contents StoreFault
stored c t = put c t >>= λ r. Ok r.1

-- one after another
unfoldable pub stored_all : Contents → List Tree → Result Contents StoreFault
stored_all c [] = Ok c
stored_all c (t ∷ ts) = stored c t >>= λ d. stored_all d ts

-- The parts at handles, from place k on, as a head takes them (1): the leftmost that names nothing or does not fit is given.
abbrev pub checked_at : Head → ℕ → ℕ → Option Tree → Result (List Tree) StoreFault → Result (List Tree) StoreFault
checked_at h k n none rest = Err (NoSuch n)
checked_at h k n (some t) rest = cond (takes h k (seen t)) (rest >>= λ ts. Ok (t ∷ ts)) (Err (BadPart k))

abbrev pub checked : List Tree → Head → ℕ → List ℕ → Result (List Tree) StoreFault
checked m h k [] = cond (nat_lt k (least h)) (Err (BadPart k)) (Ok [])
checked m h k (n ∷ ns) = checked_at h k n (at m n) (checked m h (suc k) ns)

-- The calls that add

unfoldable pub add_leaf : Contents → Leaf → Result ℕ StoreFault × Contents
add_leaf c x = answered c (put c (leaf x))

-- a head over the terms at handles: 1, then the term that is held already, then 2, then 3
unfoldable pub add_node : Contents → Head → List ℕ → Result ℕ StoreFault × Contents
add_node c h ns = answered c (checked c.trees h 0 ns >>= λ ts. put c (assembled h ts))

-- The calls that read: 1 where no entry has the handle, or there is no such part

abbrev pub found : List Tree → ℕ → Result Tree StoreFault
found m n = given (at m n) (NoSuch n)

-- what a call is handed at place k of its arguments: 1 where no entry has the handle, or one of another sort
unfoldable pub read_as : List Tree → Sort → ℕ → ℕ → Result Tree StoreFault
read_as m s k n = found m n >>= λ t. must (same_sort s (node_sort (seen t))) (BadPart k) >>= λ _. Ok t

unfoldable pub get : List Tree → ℕ → Result Node StoreFault
get m n = found m n >>= λ t. Ok (seen t)

unfoldable pub part : List Tree → ℕ → ℕ → Result ℕ StoreFault
part m n k = found m n >>= λ t. given (at (parts t) k) (BadPart k) >>= λ u. Ok (handle m u)

-- the handles of all parts, in order
unfoldable pub parts_at : List Tree → ℕ → Result (List ℕ) StoreFault
parts_at m n = found m n >>= λ t. Ok (map (handle m) (parts t))

unfoldable pub sort_at : List Tree → ℕ → Result Sort StoreFault
sort_at m n = get m n >>= λ v. Ok (node_sort v)

unfoldable pub facts_at : List Tree → ℕ → Result Facts StoreFault
facts_at m n = found m n >>= λ t. Ok (facts t)

-- cut back to an earlier length
abbrev pub cut_back : Contents → ℕ → Contents
cut_back c n = record { trees = take n c.trees; entries = c.entries; items = c.items }

-- What stands true of every store

-- equal terms have one handle: the handle of the tree at a place is that place
abbrev pub OneHandle : List Tree → Type 0
OneHandle m = (i : ℕ) → i < length m → handle m (slice_index_or m i nil) ≡ i

-- the second contents begin with the first, and the room is the same: each handle of the first names what it named
pub record Grown (c d : Contents) : Type 0 where
  pub front : take (length c.trees) d.trees ≡ c.trees
  pub entries : d.entries ≡ c.entries
  pub items : d.items ≡ c.items

-- A handle means one tree for ever: what is held stays at its place whatever is added, and after any two stages of adding;
-- and what was only added to, cut back to its length, is as it was.
pub record HandlesLast : Type 0 where
  pub by_leaf : (c : Contents) (x : Leaf) → Grown c (add_leaf c x).1
  pub by_node : (c : Contents) (h : Head) (ns : List ℕ) → Grown c (add_node c h ns).1
  pub by_stages : (c d e : Contents) → Grown c d → Grown d e → Grown c e
  pub back : (c d : Contents) → Grown c d → cut_back d (length c.trees) ≡ c
