-- What reading an entry answers: the entry, or that there is none; and what comparing two handles answers.
use Rattle.std.specs.Prelude.{◌≡◌, ℕ, ◌<◌, ◌≤◌, Bool, List, length, Ok, Err, Result, ◌==◌, slice_index_or}
use Rattle.theory.specs.declared.words.StoreFault.{StoreFault}
use Rattle.theory.specs.declared.words.StoreFault.TheVariants.{NoSuch}
use Rattle.theory.specs.Limits.{highest}
use Rattle.theory.specs.Outcomes.{◌>>=◌, test}
use Rattle.theory.specs.Trees.{Tree, tree?, node_sort}
use Rattle.theory.specs.Store.{found, get, sort_at, facts_at}
use Rattle.terms.specs.declared.memory.entry.Entry.{Entry}
use Rattle.terms.specs.Memory.{vacant}

abbrev pub ReadAt : List Entry → ℕ → Result Entry StoreFault → Type 0
ReadAt es n (Ok e) = (n < length es) × (e ≡ slice_index_or es n vacant)
ReadAt es n (Err f) = (length es ≤ n) × (f ≡ NoSuch n)

-- whether two handles name equal terms, or the first that names nothing
unfoldable pub same_at : List Tree → ℕ → ℕ → Result Bool StoreFault
same_at m a b = found m a >>= λ t. found m b >>= λ u. Ok (test (tree? t u))

-- what an entry says of its term to every call that reads one, where m are the trees held
pub record EntryOf (m : List Tree) (n : ℕ) (e : Entry) : Type 0 where
  pub form : Ok e.node ≡ get m n
  pub facts : Ok e.facts ≡ facts_at m n
  pub sort : Ok (node_sort e.node) ≡ sort_at m n
  pub same : (q : ℕ) → q < length m → Ok (n == q) ≡ same_at m n q
  pub inside : n < length m
  pub low : e.facts.height ≤ highest

-- and what each of them answers where no term has the handle
pub record NoEntry (m : List Tree) (n : ℕ) (f : StoreFault) : Type 0 where
  pub form : Err f ≡ get m n
  pub facts : Err f ≡ facts_at m n
  pub sort : Err f ≡ sort_at m n
  pub same_left : (q : ℕ) → Err f ≡ same_at m n q
  pub same_right : (p : ℕ) → p < length m → Err f ≡ same_at m p n

abbrev pub Reads : List Tree → ℕ → Result Entry StoreFault → Type 0
Reads m n (Ok e) = EntryOf m n e
Reads m n (Err f) = NoEntry m n f
