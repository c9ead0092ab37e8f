-- What is found of a new term from its parts, in one pass that also checks them.
use Rattle.std.specs.Prelude.{◌≡◌, ℕ, suc, ◌+◌, ◌-◌, max, true, cond, List, [], ◌∷◌, length, Ok, Err, Result, bit_or, nat_lt}
use Rattle.std.proofs.Math.Option.{Option, none, some}
use Rattle.theory.specs.declared.words.Head.{Head}
use Rattle.theory.specs.declared.words.Facts.{Facts}
use Rattle.theory.specs.declared.words.StoreFault.{StoreFault}
use Rattle.theory.specs.declared.words.StoreFault.TheVariants.{NoSuch, BadPart}
use Rattle.theory.specs.declared.words.Node.TheVariants.{Over}
use Rattle.theory.specs.Outcomes.{at, answered}
use Rattle.theory.specs.Trees.{Tree, seen, takes, least, weight, opens, facts}
use Rattle.theory.specs.Store.{Contents, put, add_node}
use Rattle.terms.specs.Memory.{cell, tree_of, fits}

abbrev pub no_facts : Facts
no_facts = record { height = 0; flags = record { bits = 0 }; outer = 0 }

-- of two terms in a row
abbrev pub beside : Facts → Facts → Facts
beside f g = record { height = max f.height g.height; flags = record { bits = bit_or f.flags.bits g.flags.bits }; outer = max f.outer g.outer }

-- of a head over a row
abbrev pub topped : Head → Facts → Facts
topped h f = record { height = weight h + f.height; flags = f.flags; outer = f.outer - opens h }

abbrev pub surveyed_at : Head → ℕ → ℕ → Option Tree → (Facts → Result Facts StoreFault) → Facts → Result Facts StoreFault
surveyed_at h k n none rest f = Err (NoSuch n)
surveyed_at h k n (some t) rest f = cond (takes h k (seen t)) (rest (beside f (facts t))) (Err (BadPart k))

-- the parts from place k on, where f is found of those before
abbrev pub surveyed : List Tree → Head → ℕ → List ℕ → Facts → Result Facts StoreFault
surveyed m h k [] f = cond (nat_lt k (least h)) (Err (BadPart k)) (Ok (topped h f))
surveyed m h k (n ∷ ns) f = surveyed_at h k n (at m n) (surveyed m h (suc k) ns) f

-- what a pass over the parts tells the call that adds: the refusal, or that the parts fit and what is found of the term
abbrev pub Passed : Contents → Head → List ℕ → Result Facts StoreFault → Type 0
Passed c h ns (Ok f) =
    (fits c.trees (Over h (length ns)) ns ≡ true)
    × (f ≡ facts (tree_of c.trees (cell (Over h (length ns)) ns)))
    × (answered c (put c (tree_of c.trees (cell (Over h (length ns)) ns))) ≡ add_node c h ns)
Passed c h ns (Err g) = (Err g, c) ≡ add_node c h ns
