-- What the first difference of two canonical goals says.
use Rattle.std.specs.Prelude.{◌≡◌, ◌≢◌, ℕ, ◌<◌, List, length, Some, None, Option, slice_index}
use Rattle.solver.specs.declared.canonical.CanonicalGoal.{CanonicalGoal}
use Rattle.solver.specs.declared.canonical.forms.Part.{Part}
use Rattle.solver.specs.declared.canonical.forms.Part.TheVariants.{Environment, Value as value, Opaques as opaques}
use Rattle.solver.specs.declared.canonical.compare.Difference.{Difference}
use Rattle.solver.specs.declared.canonical.compare.Difference.TheVariants.{Mode, NameCount, Kind, Env, Value, Opaques}

-- it is a difference of kinds
abbrev pub OfKinds : Difference → Type 0
OfKinds (Mode m n) = ⊥
OfKinds (NameCount m n) = Unit {0}
OfKinds (Kind k x y) = x ≢ y
OfKinds (Env x y) = ⊥
OfKinds (Value x y) = ⊥
OfKinds (Opaques x y) = ⊥

-- a place at which two lists have different elements
abbrev pub Apart : List ℕ → List ℕ → ℕ → Type 0
Apart xs ys k = (k < length xs) × (k < length ys) × (slice_index xs k ≢ slice_index ys k)

-- the difference of two terms that stand in a part
abbrev pub difference_in : Part → ℕ → ℕ → Difference
difference_in Environment x y = Env x y
difference_in value x y = Value x y
difference_in opaques x y = Opaques x y

-- There is none only where typing modes, kinds, environments, values and opaque pairs are the same; else it speaks of the
-- first of these that is not, and names two modes or terms that differ.
abbrev pub Tells : CanonicalGoal → CanonicalGoal → Option Difference → Type 0
Tells a b None =
    (a.goal.mode ≡ b.goal.mode) × (a.kinds ≡ b.kinds) × (a.goal.env ≡ b.goal.env) × (a.goal.value ≡ b.goal.value)
    × (a.goal.opaques ≡ b.goal.opaques)
Tells a b (Some (Mode m n)) = (m ≡ a.goal.mode) × (n ≡ b.goal.mode) × (m ≢ n)
Tells a b (Some (NameCount m n)) = (a.goal.mode ≡ b.goal.mode) × (a.kinds ≢ b.kinds)
Tells a b (Some (Kind k x y)) = (a.goal.mode ≡ b.goal.mode) × (a.kinds ≢ b.kinds) × (x ≢ y)
Tells a b (Some (Env x y)) = (a.goal.mode ≡ b.goal.mode) × (a.kinds ≡ b.kinds) × (a.goal.env ≢ b.goal.env) × (x ≢ y)
Tells a b (Some (Value x y)) =
    (a.goal.mode ≡ b.goal.mode) × (a.kinds ≡ b.kinds) × (a.goal.env ≡ b.goal.env) × (a.goal.value ≢ b.goal.value) × (x ≢ y)
Tells a b (Some (Opaques x y)) =
    (a.goal.mode ≡ b.goal.mode) × (a.kinds ≡ b.kinds) × (a.goal.env ≡ b.goal.env) × (a.goal.value ≡ b.goal.value)
    × (a.goal.opaques ≢ b.goal.opaques) × (x ≢ y)
