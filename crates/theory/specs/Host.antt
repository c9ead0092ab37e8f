-- A host by what it means: its log, its open marks and its places left; and the calls that add an event, open a mark or close one.
-- A refusal leaves everything as it was. A context is one store and one host.
use Rattle.std.specs.Prelude.{ℕ, zero, suc, ◌+◌, ◌-◌, Bool, true, false, List, [], ◌∷◌, length, drop, Ok, Err, Result, ◌==◌, nat_le, nat_lt}
use Rattle.std.proofs.Math.Option.{Option, none, some}
use Rattle.theory.specs.declared.words.VarSort.TheVariants.{Ty as v_ty}
use Rattle.theory.specs.declared.words.VariableSort.{VariableSort}
use Rattle.theory.specs.declared.words.Leaf.TheVariants.{Variable}
use Rattle.theory.specs.Limits.{most_marks}
use Rattle.theory.specs.Outcomes.{◌>>=◌, must, raised}
use Rattle.theory.specs.Trees.{Tree, leaf}
use Rattle.theory.specs.Store.{Contents, put}
use Rattle.theory.specs.Forms.{variable_of}
use Rattle.theory.specs.Faults.{HostFault, in_store, unknown_number, unknown_universe, log_full, marks_full, not_newest}
use Rattle.theory.specs.Log.{Event, opened, made, joins, hidden, duplicate, Log, universes, count, known, root, hidden_of}

-- marks stand newest first, each the log's length at the time when it was opened
pub record Host : Type 0 where
  pub log : Log
  pub marks : List ℕ
  pub left : ℕ

-- made with no event and no open mark
abbrev pub new_host : ℕ → Host
new_host places = record { log = []; marks = []; left = places }

-- Calls that add an event

abbrev pub push_at : ℕ → Event → Host → Result Host HostFault
push_at zero e h = Err log_full
push_at (suc n) e h = Ok (record { log = e ∷ h.log; marks = h.marks; left = n })

-- one more event, if there is a place for it
unfoldable pub push : Event → Host → Result Host HostFault
push e h = push_at h.left e h

unfoldable pub open_universe : Host → Result Host HostFault
open_universe h = push opened h

unfoldable pub open_universes : ℕ → Host → Result Host HostFault
open_universes zero h = Ok h
open_universes (suc n) h = open_universe h >>= λ g. open_universes n g

-- the event of a new variable: 4 for an unopened universe, then 5
unfoldable pub make : VariableSort → ℕ → Host → Result Host HostFault
make s u h = must (nat_le u (universes h.log)) unknown_universe >>= λ a. push (made s u) h

-- two type variables are joined in one sub class, unless they are already
abbrev pub join_if : Bool → ℕ → ℕ → Host → Result Host HostFault
join_if true a b h = Ok h
join_if false a b h = push (joins a b) h

unfoldable pub join : ℕ → ℕ → Host → Result Host HostFault
join a b h =
    must (known h.log (Variable v_ty a)) unknown_number >>= λ x.
    must (known h.log (Variable v_ty b)) unknown_number >>= λ y.
    join_if (root h.log a == root h.log b) a b h

-- a hidden type is recorded, then, if its key had one, the newest earlier type as a duplicate
abbrev pub again : Tree → Option Tree → Host → Result Host HostFault
again k none h = Ok h
again k (some t) h = push (duplicate k t) h

unfoldable pub hide : Tree → Tree → Host → Result Host HostFault
hide k t h = push (hidden k t) h >>= λ g. again k (hidden_of h.log k) g

-- Marks. A mark is the number of marks that were open when it was made, so that the newest is one less than their count.

unfoldable pub mark : Host → Result Host HostFault
mark h =
    must (nat_lt (length h.marks) most_marks) marks_full >>= λ a.
    Ok (record { log = h.log; marks = length h.log ∷ h.marks; left = h.left })

abbrev pub keep_in : List ℕ → Host → Host
keep_in [] h = h
keep_in (k ∷ ks) h = record { log = h.log; marks = ks; left = h.left }

-- the log cut back to its k oldest events; the places of the others are free again
abbrev pub cut_log : ℕ → Host → Host
cut_log k h =
    let d : ℕ = length h.log - k in
    record { log = drop d h.log; marks = h.marks; left = h.left + d }

abbrev pub undo_in : List ℕ → Host → Host
undo_in [] h = h
undo_in (k ∷ ks) h = keep_in (k ∷ ks) (cut_log k h)

abbrev pub newest : ℕ → Host → Bool
newest i h = suc i == length h.marks

unfoldable pub keep : ℕ → Host → Result Host HostFault
keep i h = must (newest i h) not_newest >>= λ a. Ok (keep_in h.marks h)

unfoldable pub undo : ℕ → Host → Result Host HostFault
undo i h = must (newest i h) not_newest >>= λ a. Ok (undo_in h.marks h)

-- Contexts

pub record Context : Type 0 where
  pub store : Contents
  pub host : Host

-- made with no entry, event or open mark: with memory for so many entries, parts of entries, and events
pub record Sizes : Type 0 where
  pub entries : ℕ
  pub items : ℕ
  pub places : ℕ

abbrev pub new_context : Sizes → Context
new_context z = record { store = record { trees = []; entries = z.entries; items = z.items }; host = new_host z.places }

-- a new variable has the next number of its sort, and its term is put in the store: 4 for an unopened universe, then 5, then 2
unfoldable pub make_variable : VariableSort → ℕ → Context → Result (ℕ × Context) HostFault
make_variable s u c =
    make s u c.host >>= λ h.
    raised in_store (put c.store (leaf (variable_of s (count s c.host.log)))) >>= λ r.
    Ok (r.0, record { store = r.1; host = h })
