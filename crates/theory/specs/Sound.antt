-- What else stands true of every list of calls on a new context: of the store's entries, of the terms that the log names, of its
-- places, of resolving, and of refusals 6 and 7.
use Rattle.std.specs.Prelude.{◌≡◌, ℕ, ◌+◌, ◌<◌, ◌≤◌, true, ◌⊎◌, List, length, Ok, Err}
use Rattle.std.proofs.Math.Option.{none}
use Rattle.theory.specs.declared.words.VarSort.TheVariants.{Ty as v_ty}
use Rattle.theory.specs.declared.words.Leaf.TheVariants.{Variable}
use Rattle.theory.specs.Limits.{highest, longest}
use Rattle.theory.specs.Outcomes.{Among, StandsAt}
use Rattle.theory.specs.Trees.{Tree, leaf, node, nil, cons, parts, height}
use Rattle.theory.specs.Store.{used}
use Rattle.theory.specs.Forms.{is_entry, well_formed}
use Rattle.theory.specs.Faults.{HostFault, host_number}
use Rattle.theory.specs.Log.{Event, opened, made, binds, lowered, joins, equates, outlived, hidden, duplicate, Log, binding, resolve}
use Rattle.theory.specs.Host.{Sizes}
use Rattle.theory.specs.Relate.{relate}
use Rattle.theory.specs.Runs.{Call, run}
use Rattle.theory.specs.Solutions.{Assignment, Agree, Satisfies}

-- of a store with room for so many entries and parts of entries
pub record Held (entries parts_room : ℕ) (m : List Tree) : Type 0 where
  pub within : length m ≤ entries
  pub roomy : used m ≤ parts_room
  -- equal terms have one handle
  pub distinct : (i j : ℕ) (t : Tree) → StandsAt m i t → StandsAt m j t → i ≡ j
  -- no term is too high, and no list too long
  pub low : (i : ℕ) (t : Tree) → StandsAt m i t → height t ≤ highest
  pub short : (i : ℕ) (t : Tree) → StandsAt m i t → length (parts t) ≤ longest

-- the parts of a term stand before it, and every term is well formed
pub record Built (m : List Tree) : Type 0 where
  pub before : (i : ℕ) (t u : Tree) → StandsAt m i t → Among u (parts t) → (j : ℕ) × (j < i) × StandsAt m j u
  pub formed : (i : ℕ) (t : Tree) → StandsAt m i t → (is_entry t ≡ true) × (well_formed t ≡ true)

-- no bound variable
abbrev pub Settled : Log → Tree → Type 0
Settled l (leaf x) = binding l x ≡ none
Settled l (node h ts) = Unit {0}
Settled l nil = Unit {0}
Settled l (cons t u) = Unit {0}

-- the terms that an event names
abbrev pub NamedBy : Event → Tree → Type 0
NamedBy opened t = ⊥
NamedBy (made m u) t = ⊥
NamedBy (binds x u) t = (t ≡ leaf x) ⊎ (t ≡ u)
NamedBy (lowered x u) t = t ≡ leaf x
NamedBy (joins a b) t = (t ≡ leaf (Variable v_ty a)) ⊎ (t ≡ leaf (Variable v_ty b))
NamedBy (equates v x y) t = (t ≡ leaf x) ⊎ (t ≡ leaf y)
NamedBy (outlived v s u) t = (t ≡ s) ⊎ (t ≡ u)
NamedBy (hidden k u) t = (t ≡ k) ⊎ (t ≡ u)
NamedBy (duplicate k u) t = (t ≡ k) ⊎ (t ≡ u)

pub record Sound (R : Type 0) (z : Sizes) (cs : List (Call R)) : Type 0 where
  pub held : Held z.entries z.items (run z cs).context.store.trees
  pub built : Built (run z cs).context.store.trees
  -- and so has every term that the log names
  pub logged :
      (e : Event) (t : Tree) → Among e (run z cs).context.host.log → NamedBy e t → (n : ℕ) × StandsAt (run z cs).context.store.trees n t
  -- events and places left make up the log's size
  pub places : length (run z cs).context.host.log + (run z cs).context.host.left ≡ z.places
  -- resolving ends at an unbound variable or another term
  pub settled :
      (t u : Tree) → resolve (run z cs).context.host.log t ≡ Ok u → Settled (run z cs).context.host.log u
  -- a clash, and a variable inside its term, are refused only where nothing solves the log with the equation
  pub clashes :
      (s t : Tree) (f : HostFault) → relate s t (run z cs).context.host ≡ Err f → ((host_number f ≡ 6) ⊎ (host_number f ≡ 7)) →
      (A : Assignment) → Satisfies A (run z cs).context.host.log → ¬ Agree A s t

abbrev pub AlwaysSound : (R : Type 0) → Type 0
AlwaysSound R = (z : Sizes) (cs : List (Call R)) → Sound R z cs
