-- Canonicalizing a response: any foldable value, with the largest universe of its input. Static, erased and error stay.
-- Kinds keep their universe, less the largest input universe and never below 0.
use Rattle.std.specs.Prelude.{ℕ, ◌-◌, max, cond, ◌&&◌, List, [], ◌∷◌, map, Ok, Result, nat_le}
use Rattle.std.proofs.Math.Option.{Option, none, some}
use Rattle.theory.specs.declared.words.ArgSort.{ArgSort}
use Rattle.theory.specs.declared.words.ArgSort.TheVariants.{Ty as ty, Region as region, Const as const}
use Rattle.theory.specs.declared.words.Kind.{Kind}
use Rattle.theory.specs.declared.words.Leaf.{Leaf}
use Rattle.theory.specs.declared.words.Leaf.TheVariants.{Variable, RegionVariable, Parameter, LateParameter, Placeholder, Bound, Canonical, Error, Static, Erased, Kind as AKind}
use Rattle.theory.specs.Outcomes.{◌>>=◌, raised, each}
use Rattle.theory.specs.Store.{Contents, handle, found}
use Rattle.theory.specs.Folds.{Folded, fold_all, anywhere}
use Rattle.theory.specs.Forms.{kind_universe}
use Rattle.theory.specs.Faults.{Fault, parameter_in_response, placeholder_of_input, from_store}
use Rattle.theory.specs.Values.{Foldable}
use Rattle.theory.specs.Log.{Log, universe_of}
use Rattle.theory.specs.Names.{in_response, Form, decided}
use Rattle.theory.specs.Tables.{Table, no_names, name_leaf, no_canonical, kinds_tree, put_kinds}

-- 17: a region placeholder of universe 1 to the largest input universe
abbrev pub input_region : ℕ → ArgSort → ℕ → ℕ → Option Fault
input_region m ty u n = none
input_region m region u n = cond (nat_le 1 u && nat_le u m) (some (placeholder_of_input (Placeholder region u n))) none
input_region m const u n = none

-- 16: a parameter; 17
abbrev pub response_barred : ℕ → Leaf → Option Fault
response_barred m (Variable s n) = none
response_barred m (RegionVariable n) = none
response_barred m (Parameter a n) = some (parameter_in_response (Parameter a n))
response_barred m (LateParameter n) = some (parameter_in_response (LateParameter n))
response_barred m (Placeholder a u n) = input_region m a u n
response_barred m (Bound a d n) = none
response_barred m (Canonical a n) = none
response_barred m (Error a) = none
response_barred m Static = none
response_barred m Erased = none
response_barred m (AKind k) = none

-- the universe of a leaf: a placeholder has its own, a variable that of the log
abbrev pub leaf_universe : Log → Leaf → ℕ
leaf_universe l (Variable s n) = universe_of l (Variable s n)
leaf_universe l (RegionVariable n) = universe_of l (RegionVariable n)
leaf_universe l (Parameter a n) = 0
leaf_universe l (LateParameter n) = 0
leaf_universe l (Placeholder a u n) = u
leaf_universe l (Bound a d n) = 0
leaf_universe l (Canonical a n) = 0
leaf_universe l (Error a) = 0
leaf_universe l Static = 0
leaf_universe l Erased = 0
leaf_universe l (AKind k) = 0

-- the form of the kind that a leaf gets in a response, or none where it stays; `m` is the largest input universe
abbrev pub response_form : Log → ℕ → Leaf → Option Form
response_form l m x = decided (λ y. leaf_universe l y - m) in_response x

abbrev pub response_leaf : Log → ℕ → ℕ → Leaf → Table → Contents → Result (Folded Table) Fault
response_leaf l m d x w c = name_leaf (response_barred m) (λ y. leaf_universe l y - m) l in_response d x w c

abbrev pub largest_of : List Kind → ℕ
largest_of [] = 0
largest_of (k ∷ ks) = max (kind_universe k) (largest_of ks)

-- a canonical value, as a caller holds it: its largest universe, the handle of its kinds, and the value
pub record CanonicalValue (R : Type 0) : Type 0 where
  pub largest : ℕ
  pub kinds : ℕ
  pub value : Foldable R

-- the walk, root by root; then the kinds and their list are put
unfoldable pub canonicalize_response : {R : Type 0} → Log → ℕ → Foldable R → Contents → Result (CanonicalValue R × Contents) Fault
canonicalize_response l u q c =
    raised from_store (each (found c.trees) q.roots) >>= λ ts.
    no_canonical ts >>= λ _.
    fold_all from_store anywhere (response_leaf l u) ts no_names c >>= λ v.
    raised from_store (put_kinds v.state.kinds v.store) >>= λ d.
    Ok (
      record {
        largest = largest_of v.state.kinds;
        kinds = handle d.trees (kinds_tree v.state.kinds);
        value = record { roots = map (handle d.trees) v.trees; rest = q.rest };
      },
      d,
    )
