-- The main promise, over every list of calls on a new context: which accepted goals have equal canonical goals, and which
-- assignments satisfy the context.
use Rattle.std.specs.Prelude.{◌≡◌, ℕ, ◌<◌, Bool, ◌⊎◌, ◌↔◌, List, [], ◌∷◌, ◌++◌, length, slice_index_or}
use Rattle.theory.specs.declared.words.Leaf.{Leaf}
use Rattle.theory.specs.declared.words.Leaf.TheVariants.{Variable, RegionVariable, Parameter, LateParameter, Placeholder, Bound, Canonical, Error, Static, Erased, Kind as AKind}
use Rattle.theory.specs.Outcomes.{Among, StandsAt}
use Rattle.theory.specs.Trees.{Tree, leaf, node, nil, cons}
use Rattle.theory.specs.Forms.{elements, kinds_in}
use Rattle.theory.specs.Log.{Log}
use Rattle.theory.specs.Host.{Sizes}
use Rattle.theory.specs.Goals.{Asked, Goal, CanonicalGoal}
use Rattle.theory.specs.Applying.{Reply, pairwise, constraints_in, equalities}
use Rattle.theory.specs.Runs.{Call, relating, asking, applying, marking, undoing, Reported, done, asked, applied, Done, run}
use Rattle.theory.specs.Pairing.{Paired, Stands}
use Rattle.theory.specs.Solutions.{Assignment, Agree, Satisfies}

-- call number j, as it went, is d
abbrev pub At : {R : Type 0} → List (Done R) → ℕ → Done R → Type 0
At [] j d = ⊥
At (e ∷ ds) j d = ((j ≡ length ds) × (d ≡ e)) ⊎ At ds j d

-- call number j was c, and was accepted with the answer a
pub record Accepted {R : Type 0} (ds : List (Done R)) (j : ℕ) (c : Call R) (a : Reported R) : Type 0 where
  pub entry : Done R
  pub stands : At ds j entry
  pub called : entry.call ≡ c
  pub answered : entry.answer ≡ a

-- a goal that was accepted at place j: what was asked, its canonical goal, and the log of that moment
pub record GoalAt {R : Type 0} (ds : List (Done R)) (q : Asked R) (c : CanonicalGoal R) (l : Log) : Type 0 where
  pub place : ℕ
  pub originals : ℕ
  pub entry : Done R
  pub stands : At ds place entry
  pub called : entry.call ≡ asking q
  pub answered : entry.answer ≡ asked originals c
  pub then : entry.log_then ≡ l

-- call number j is undone: a mark made before it is undone after it
abbrev pub Undone : {R : Type 0} → List (Done R) → ℕ → Type 0
Undone ds j = (i : ℕ) × (k : ℕ) × (i < j) × (j < k) × Accepted ds i marking done × Accepted ds k (undoing i) done

-- s = t is an equation of call number j, an accepted relate or apply: a relate has one, between its two terms
abbrev pub RelateEquation : {R : Type 0} → List Tree → List (Done R) → ℕ → Tree → Tree → Type 0
RelateEquation m ds j s t = (a : ℕ) × (b : ℕ) × Accepted ds j (relating a b) done × StandsAt m a s × StandsAt m b t

-- an apply has its answer's, canonical variables replaced
abbrev pub ApplyEquation : {R : Type 0} → List (Done R) → ℕ → Tree → Tree → Type 0
ApplyEquation ds j s t =
    (i : ℕ) × (v : Bool) × (r : Reply) × (g : ℕ) × (y : ℕ) × (es : List (Tree × Tree)) ×
    Accepted ds j (applying i v r) (applied g y es) × Among (s, t) es

abbrev pub Equation : {R : Type 0} → List Tree → List (Done R) → ℕ → Tree → Tree → Type 0
Equation m ds j s t = RelateEquation m ds j s t ⊎ ApplyEquation ds j s t

-- a tree with vs in place of its canonical variables
abbrev pub filled_leaf : List Tree → Leaf → Tree
filled_leaf vs (Variable s n) = leaf (Variable s n)
filled_leaf vs (RegionVariable n) = leaf (RegionVariable n)
filled_leaf vs (Parameter a n) = leaf (Parameter a n)
filled_leaf vs (LateParameter n) = leaf (LateParameter n)
filled_leaf vs (Placeholder a u n) = leaf (Placeholder a u n)
filled_leaf vs (Bound a d n) = leaf (Bound a d n)
filled_leaf vs (Canonical a n) = slice_index_or vs n (leaf (Canonical a n))
filled_leaf vs (Error a) = leaf (Error a)
filled_leaf vs Static = leaf Static
filled_leaf vs Erased = leaf Erased
filled_leaf vs (AKind k) = leaf (AKind k)

abbrev pub filled : List Tree → Tree → Tree
filled vs (leaf x) = filled_leaf vs x
filled vs (node h ts) = node h (filled vs ts)
filled vs nil = nil
filled vs (cons t u) = cons (filled vs t) (filled vs u)

-- es are the equations of the answer r to a question with the original values os, where the kinds got the values vs:
-- each original with the answer's value at its place, and the answer's region equalities
pub record EquationsOf (m : List Tree) (os : ℕ) (r : Reply) (es : List (Tree × Tree)) : Type 0 where
  pub vs : List Tree
  pub originals : Tree
  pub ks : Tree
  pub values : Tree
  pub constraints : Tree
  pub originals_at : StandsAt m os originals
  pub kinds_at : StandsAt m r.kinds ks
  pub values_at : StandsAt m r.values values
  pub constraints_at : StandsAt m r.constraints constraints
  pub one_each : length vs ≡ length (kinds_in (elements ks))
  pub are :
      es ≡ pairwise (elements originals) (elements (filled vs values)) ++ equalities (constraints_in (elements (filled vs constraints)))

-- The main promise, of a list of calls on a context that is made new
pub record Promise (R : Type 0) (z : Sizes) (cs : List (Call R)) : Type 0 where
  -- Any two accepted goals, each at its own moment, have equal canonical goals exactly when a pairing of names carries one to the other.
  pub pairing :
      (q₁ q₂ : Asked R) (c₁ c₂ : CanonicalGoal R) (l₁ l₂ : Log) →
      GoalAt (run z cs).history q₁ c₁ l₁ →
      GoalAt (run z cs).history q₂ c₂ l₂ →
      (g₁ : Goal R) × (g₂ : Goal R) × Stands (run z cs).context.store.trees q₁ g₁ × Stands (run z cs).context.store.trees q₂ g₂ ×
      ((c₁ ≡ c₂) ↔ Paired l₁ l₂ g₁ g₂)
  -- An assignment satisfies the context exactly when it satisfies every equation of each relate and apply that was accepted and not undone.
  pub solutions :
      (A : Assignment) →
      Satisfies A (run z cs).context.host.log ↔
      ((j : ℕ) (s t : Tree) →
      Equation (run z cs).context.store.trees (run z cs).history j s t → ¬ Undone (run z cs).history j → Agree A s t)
  -- The equations that an accepted apply reports are its answer's.
  pub answers :
      (j i g y : ℕ) (v : Bool) (r : Reply) (es : List (Tree × Tree)) →
      Accepted (run z cs).history j (applying i v r) (applied g y es) →
      (os : ℕ) × (q : Asked R) × (c : CanonicalGoal R) ×
      Accepted (run z cs).history i (asking q) (asked os c) × EquationsOf (run z cs).context.store.trees os r es

abbrev pub MainPromise : (R : Type 0) → Type 0
MainPromise R = (z : Sizes) (cs : List (Call R)) → Promise R z cs
