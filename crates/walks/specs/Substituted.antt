-- Canonical variables replaced by values throughout a term: variable k becomes value k. The store gains what is rebuilt, parts
-- before wholes; a refused call leaves it as it was.
use Rattle.std.specs.Prelude.{◌≡◌, ℕ, ◌<◌, List, map, length, get_or, Some, Ok, Err, Result, nat_eq, slice_index, slice_index_or}
use Rattle.theory.specs.declared.words.StoreFault.{StoreFault}
use Rattle.theory.specs.Faults.{Fault, from_store, not_canonical, wrong_sort}
use Rattle.theory.specs.Outcomes.{◌>>=◌, answered, raised, each}
use Rattle.theory.specs.Trees.{Tree, nil}
use Rattle.theory.specs.Store.{Contents, found, handle, Grown}
use Rattle.theory.specs.Folds.{folded}
use Rattle.theory.specs.Applying.{fill}
use Rattle.std.specs.Hash.{u32}
use Rattle.maps.specs.Keys.{digest}
use Rattle.maps.specs.Pairs.{Pair, found as cached}
use Rattle.walks.specs.declared.fault.SubstituteFault.{SubstituteFault}
use Rattle.walks.specs.declared.fault.SubstituteFault.TheVariants.{Store, NoValue, WrongSort}

-- a fault as the definitions name it
abbrev pub fault_of : SubstituteFault → Fault
fault_of (Store f) = from_store f
fault_of (NoValue x) = not_canonical x
fault_of (WrongSort x) = wrong_sort x

-- 1 for the handle of the term, then of the first value, that names nothing; then as the walk meets them 20, 22, 2 and 3
unfoldable pub substituted : Contents → ℕ → List ℕ → Result ℕ Fault × Contents
substituted c n ns =
    answered c
    (raised from_store (found c.trees n) >>= λ t.
    raised from_store (each (found c.trees) ns) >>= λ vs.
    fill vs t c >>= λ f.
    Ok (handle f.store.trees f.tree, f.store))

-- the terms at handles
abbrev pub values_at : List Tree → List ℕ → List Tree
values_at m ns = map (λ n. get_or m n nil) ns

-- each names something
abbrev pub AllNamed : List Tree → List ℕ → Type 0
AllNamed m ns = (k : ℕ) → k < length ns → slice_index ns k < length m

-- 1 for the handle of a term, then of the first value, that names nothing
unfoldable pub all_found : List Tree → ℕ → List ℕ → Result (Unit {0}) StoreFault
all_found m n ns = found m n >>= λ _. each (found m) ns >>= λ _. Ok tt

-- What a walk below leaves, with values at handles ns, of the term at handle n: the term at the answer's handle is what filling
-- in gives, or its refusal; the store has only grown.
abbrev pub Filled : Contents → List ℕ → ℕ → Result ℕ SubstituteFault → Contents → Type 0
Filled c ns n (Ok r) d = (r < length d.trees) × (fill (values_at c.trees ns) (slice_index_or c.trees n nil) c ≡ Ok (folded (slice_index_or d.trees r nil) tt d))
Filled c ns n (Err f) d = (fill (values_at c.trees ns) (slice_index_or c.trees n nil) c ≡ Err (fault_of f)) × Grown c d

-- every result in the cache is what filling in gives, now and from now on
abbrev pub Right : Contents → List ℕ → List (Pair ℕ ℕ) → Type 0
Right c ns ps =
    (k r : ℕ) → cached nat_eq (digest u32) ps k ≡ Some r → (k < length c.trees) × (r < length c.trees) × (fill (values_at c.trees ns) (slice_index_or c.trees k nil) c ≡ Ok (folded (slice_index_or c.trees r nil) tt c))
