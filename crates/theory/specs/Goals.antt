-- Canonicalizing a goal: its names become canonical variables, and its kinds are all in universe 0.
-- In the environment static stays; a type variable is refused there, and an environment in the predicate value.
use Rattle.std.specs.Prelude.{ℕ, List, [], ◌∷◌, ◌++◌, map, Ok, Result}
use Rattle.std.proofs.Math.Option.{none}
use Rattle.theory.specs.declared.words.ListSort.TheVariants.{Arguments, Environment, OpaquePairs}
use Rattle.theory.specs.declared.words.Sort.TheVariants.{List as list_of}
use Rattle.theory.specs.declared.words.Leaf.{Leaf}
use Rattle.theory.specs.declared.words.Head.{Head}
use Rattle.theory.specs.declared.words.Head.TheVariants.{List as AList}
use Rattle.theory.specs.declared.words.StoreFault.{StoreFault}
use Rattle.theory.specs.Outcomes.{◌>>=◌, mustn't, raised, each}
use Rattle.theory.specs.Trees.{Tree, leaf, node, row, head_sort, same_sort}
use Rattle.theory.specs.Store.{Contents, handle, stored, found, read_as}
use Rattle.theory.specs.Folds.{Folded, fold, fold_all, anywhere}
use Rattle.theory.specs.Faults.{Fault, environment_in_value, from_store}
use Rattle.theory.specs.Values.{Foldable}
use Rattle.theory.specs.Log.{Log}
use Rattle.theory.specs.Names.{Part, in_environment, elsewhere}
use Rattle.theory.specs.Tables.{Table, no_names, name_leaf, no_canonical, kinds_tree, put_kinds}

-- no leaf is barred in a goal
abbrev pub goal_leaf : Log → Part → ℕ → Leaf → Table → Contents → Result (Folded Table) Fault
goal_leaf l p d x w c = name_leaf (λ y. none) (λ y. 0) l p d x w c

-- 14: an environment, even an empty one, in a predicate value
abbrev pub no_environment : Head → Tree → Result (Unit {0}) Fault
no_environment h ts = mustn't (same_sort (head_sort h) (list_of Environment)) (environment_in_value (node h ts))

-- Goals

-- a goal as a caller gives it: handles, and the typing mode
pub record Asked (R : Type 0) : Type 0 where
  pub env : ℕ
  pub predicate : Foldable R
  pub opaques : ℕ
  pub mode : ℕ

-- a goal as trees
pub record Goal (R : Type 0) : Type 0 where
  pub env : Tree
  pub roots : List Tree
  pub rest : R
  pub opaques : Tree
  pub mode : ℕ

-- 1: some handle has nothing, or another sort than its place in a goal takes
unfoldable pub goal_read : {R : Type 0} → List Tree → Asked R → Result (Goal R) StoreFault
goal_read m q =
    read_as m (list_of Environment) 0 q.env >>= λ e.
    each (found m) q.predicate.roots >>= λ ts.
    read_as m (list_of OpaquePairs) 2 q.opaques >>= λ o.
    Ok (record { env = e; roots = ts; rest = q.predicate.rest; opaques = o; mode = q.mode })

-- the roots of a whole goal, in walk order
abbrev pub goal_roots : {R : Type 0} → Goal R → List Tree
goal_roots g = g.env ∷ g.roots ++ (g.opaques ∷ [])

-- a canonical goal, as a caller holds it: handles of its kinds and of the goal so rewritten
pub record CanonicalGoal (R : Type 0) : Type 0 where
  pub largest : ℕ
  pub kinds : ℕ
  pub env : ℕ
  pub predicate : Foldable R
  pub opaques : ℕ
  pub mode : ℕ

-- a question keeps the handle of the list of its original values
pub record QuestionAnd (R : Type 0) : Type 0 where
  pub originals : ℕ
  pub canonical_goal : CanonicalGoal R
  pub store : Contents

abbrev pub originals_tree : List Leaf → Tree
originals_tree xs = node (AList Arguments) (row (map (λ x. leaf x) xs))

-- The environment is walked first, keeping static; then the predicate value, root by root; then the opaque pairs. Then the
-- kinds, their list and the list of original values are put.
unfoldable pub canonicalize_goal_tree : {R : Type 0} → Log → Goal R → Contents → Result (QuestionAnd R) Fault
canonicalize_goal_tree l g c =
    no_canonical (goal_roots g) >>= λ _.
    fold from_store anywhere (goal_leaf l in_environment) 0 g.env no_names c >>= λ e.
    fold_all from_store no_environment (goal_leaf l elsewhere) g.roots e.state e.store >>= λ v.
    fold from_store anywhere (goal_leaf l elsewhere) 0 g.opaques v.state v.store >>= λ o.
    raised from_store (put_kinds o.state.kinds o.store) >>= λ d.
    raised from_store (stored d (originals_tree o.state.names)) >>= λ k.
    Ok
    (record {
      originals = handle k.trees (originals_tree o.state.names);
      canonical_goal =
          record {
            largest = 0;
            kinds = handle k.trees (kinds_tree o.state.kinds);
            env = handle k.trees e.tree;
            predicate = record { roots = map (handle k.trees) v.trees; rest = g.rest };
            opaques = handle k.trees o.tree;
            mode = g.mode;
          };
      store = k;
    })

unfoldable pub canonicalize_goal : {R : Type 0} → Log → Asked R → Contents → Result (QuestionAnd R) Fault
canonicalize_goal l q c = raised from_store (goal_read c.trees q) >>= λ g. canonicalize_goal_tree l g c
