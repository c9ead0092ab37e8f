-- What the calls on a foldable value answer, over the list of its roots.
use Rattle.std.specs.Prelude.{ℕ, cond, List, length, Ok, Err, Result, nat_lt, slice_index, slice_set}
use Rattle.theory.specs.declared.words.StoreFault.{StoreFault}
use Rattle.theory.specs.declared.words.StoreFault.TheVariants.{BadPart, TooLong}
use Rattle.theory.specs.Outcomes.{◌>>=◌, must}
use Rattle.theory.specs.Trees.{Tree, same_sort}
use Rattle.theory.specs.Store.{sort_at}

-- how many there are, or the refusal past the most that a walk takes
abbrev pub count_of : List ℕ → Result ℕ StoreFault
count_of rs = cond (nat_lt (length rs) 65536) (Ok (length rs)) (Err TooLong)

-- root k, or the refusal outside the list
abbrev pub root_at : List ℕ → ℕ → Result ℕ StoreFault
root_at rs k = cond (nat_lt k (length rs)) (Ok (slice_index rs k)) (Err (BadPart k))

-- whether a term may be put at root k, among the trees that are held
abbrev pub put_answer : List Tree → List ℕ → ℕ → ℕ → Result (Unit {0}) StoreFault
put_answer m rs k n =
    root_at rs k >>= λ o.
    sort_at m o >>= λ s.
    sort_at m n >>= λ t.
    must (same_sort s t) (BadPart k)

-- the value after that: with the term at root k, or as it was
abbrev pub put_at : {V : Type 0} → (List ℕ → V) → List ℕ → ℕ → ℕ → Result (Unit {0}) StoreFault → V → V
put_at rebuilt rs k n (Ok u) v = rebuilt (slice_set rs k n)
put_at rebuilt rs k n (Err f) v = v
