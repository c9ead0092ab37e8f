-- Goals that differ in names alone: a pairing of the names of two goals, each at its own moment, which is the log that it met.
-- Nothing here speaks of numbers, tables or the order of a walk.
use Rattle.std.specs.Prelude.{◌≡◌, ℕ, ◌⊎◌, ◌↔◌, List, [], ◌∷◌}
use Rattle.theory.specs.declared.words.VarSort.TheVariants.{Ty as v_ty}
use Rattle.theory.specs.declared.words.Leaf.{Leaf}
use Rattle.theory.specs.declared.words.Leaf.TheVariants.{Variable}
use Rattle.theory.specs.Outcomes.{Among, StandsAt}
use Rattle.theory.specs.Trees.{Tree, leaf, row}
use Rattle.theory.specs.Log.{binds, joins, Log}
use Rattle.theory.specs.Names.{in_environment, elsewhere, goal_form, Name, Partners, Carries, OneToOne}
use Rattle.theory.specs.Goals.{Asked, Goal}

-- two type variables share a sub class: the least equivalence with the pairs that were joined, or bound one to the other
pub data Together (l : Log) : ℕ → ℕ → Type 0 where
  alone : (a : ℕ) → Together l a a
  turned : (a b : ℕ) → Together l a b → Together l b a
  onward : (a b c : ℕ) → Together l a b → Together l b c → Together l a c
  by_join : (a b : ℕ) → Among (joins a b) l → Together l a b
  by_binding : (a b : ℕ) → Among (binds (Variable v_ty a) (leaf (Variable v_ty b))) l → Together l a b

-- x is a name in a goal
abbrev pub NameOf : {R : Type 0} → Goal R → Leaf → Type 0
NameOf g x = Name in_environment g.env x ⊎ (Name elsewhere (row g.roots) x ⊎ Name elsewhere g.opaques x)

-- P pairs the names of g₁, met at l₁, with those of g₂, met at l₂
pub record Pairing {R : Type 0} (l₁ l₂ : Log) (g₁ g₂ : Goal R) (P : List (Leaf × Leaf)) : Type 0 where
  -- it is one-to-one between the names of the two goals
  pub one_to_one : OneToOne (NameOf g₁) (NameOf g₂) P
  -- partners have kinds of one form
  pub forms : (x y : Leaf) → Partners P x y → goal_form elsewhere x ≡ goal_form elsewhere y
  -- two type variables share a sub class exactly when their partners do, each at its goal's moment
  pub classes :
      (a b a' b' : ℕ) →
      Partners P (Variable v_ty a) (Variable v_ty b) →
      Partners P (Variable v_ty a') (Variable v_ty b') →
      Together l₁ a a' ↔ Together l₂ b b'
  -- replacing names by partners turns one goal into the other; in the environment static, which is no name there, faces static only
  pub env_carried : Carries P in_environment g₁.env g₂.env
  pub roots_carried : Carries P elsewhere (row g₁.roots) (row g₂.roots)
  pub rest_equal : g₁.rest ≡ g₂.rest
  pub pairs_carried : Carries P elsewhere g₁.opaques g₂.opaques
  pub modes_equal : g₁.mode ≡ g₂.mode

-- they differ in names alone
abbrev pub Paired : {R : Type 0} → Log → Log → Goal R → Goal R → Type 0
Paired l₁ l₂ g₁ g₂ = (P : List (Leaf × Leaf)) × Pairing l₁ l₂ g₁ g₂ P

-- the goal that handles stand for in a store
pub data StandFor (m : List Tree) : List ℕ → List Tree → Type 0 where
  no_root : StandFor m [] []
  a_root : (n : ℕ) (t : Tree) (ns : List ℕ) (ts : List Tree) → StandsAt m n t → StandFor m ns ts → StandFor m (n ∷ ns) (t ∷ ts)

pub record Stands {R : Type 0} (m : List Tree) (q : Asked R) (g : Goal R) : Type 0 where
  pub env_stands : StandsAt m q.env g.env
  pub roots_stand : StandFor m q.predicate.roots g.roots
  pub rest_same : q.predicate.rest ≡ g.rest
  pub pairs_stand : StandsAt m q.opaques g.opaques
  pub mode_same : q.mode ≡ g.mode
