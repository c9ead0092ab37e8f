-- Lists of calls on a context that is made new. A list of calls and its history stand newest first, like the log; calls are
-- numbered from 0, the oldest. A mark that is still open at the end may be kept then: keeping changes no event.
use Rattle.std.specs.Prelude.{ℕ, suc, ◌-◌, Bool, cond, List, [], ◌∷◌, length, Ok, Err, Result, ◌==◌}
use Rattle.std.proofs.Math.Option.{Option, none, some}
use Rattle.std.proofs.Math.Decide.{ℕ_discrete}
use Rattle.theory.specs.declared.words.VariableSort.{VariableSort}
use Rattle.theory.specs.declared.words.Leaf.{Leaf}
use Rattle.theory.specs.declared.words.Head.{Head}
use Rattle.theory.specs.declared.words.StoreFault.TheVariants.{BadPart}
use Rattle.theory.specs.Outcomes.{◌>>=◌, must, raised, place_of}
use Rattle.theory.specs.Trees.{Tree, leaf, assembled, same_sort, is_argument}
use Rattle.theory.specs.Store.{Contents, put, checked, found}
use Rattle.theory.specs.Forms.{sort_of}
use Rattle.theory.specs.Faults.{HostFault, in_store, Fault, in_host, from_store}
use Rattle.theory.specs.Log.{Log, universes}
use Rattle.theory.specs.Host.{Host, open_universe, join, mark, keep, undo, Context, Sizes, new_context, make_variable}
use Rattle.theory.specs.Relate.{relate}
use Rattle.theory.specs.Goals.{Asked, CanonicalGoal, canonicalize_goal}
use Rattle.theory.specs.Applying.{Reply, apply}

-- The nine calls, and additions of terms. A new variable has a sort and a universe; `relating` two handles; `joining` two numbers
-- of type variables. `applying i` is on the question that call number i asked; `keeping i` and `undoing i` are on the mark that it made.
pub data Call (R : Type 0) : Type 0 where
  new_variable : VariableSort → ℕ → Call R
  new_universe : Call R
  relating : ℕ → ℕ → Call R
  joining : ℕ → ℕ → Call R
  asking : Asked R → Call R
  applying : ℕ → Bool → Reply → Call R
  marking : Call R
  keeping : ℕ → Call R
  undoing : ℕ → Call R
  adding_leaf : Leaf → Call R
  adding_node : Head → List ℕ → Call R

-- What a call answers. An apply also shows the equations that it had. `absent`: the list names a question or a mark that it
-- does not hold at that time, so that no call can be made.
pub data Reported (R : Type 0) : Type 0 where
  done : Reported R
  universe : ℕ → Reported R
  held_at : ℕ → Reported R
  asked : ℕ → CanonicalGoal R → Reported R
  applied : ℕ → ℕ → List (Tree × Tree) → Reported R
  refusal : Fault → Reported R
  absent : Reported R

-- a call as it was made: with the log and the number of entries that it met
pub record Done (R : Type 0) : Type 0 where
  pub call : Call R
  pub answer : Reported R
  pub log_then : Log
  pub held_then : ℕ

-- What a list of calls holds: the open marks by the calls that made them, newest first, and the questions that are not used up,
-- each the call that asked it with the handle of its original values
pub record Run (R : Type 0) : Type 0 where
  pub context : Context
  pub tokens : List ℕ
  pub questions : List (ℕ × ℕ)
  pub history : List (Done R)

-- what an accepted call leaves
pub record Left (R : Type 0) : Type 0 where
  pub answers : Reported R
  pub leaves : Context
  pub open_marks : List ℕ
  pub open_questions : List (ℕ × ℕ)

abbrev pub leave : {R : Type 0} → Run R → Reported R → Contents → Host → Result (Left R) Fault
leave r a m h =
    Ok (record { answers = a; leaves = record { store = m; host = h }; open_marks = r.tokens; open_questions = r.questions })

-- The context's part of each call

-- 1: a handle that names nothing, the left first; then a left term that is no type, region or constant; then a right one of
-- another sort
unfoldable pub relate_handles : List Tree → ℕ → ℕ → Host → Result Host HostFault
relate_handles m a b h =
    raised in_store (found m a) >>= λ s.
    raised in_store (found m b) >>= λ t.
    must (is_argument (sort_of s)) (in_store (BadPart 0)) >>= λ _.
    must (same_sort (sort_of s) (sort_of t)) (in_store (BadPart 1)) >>= λ _.
    relate s t h

-- Marks and questions that a list of calls holds

-- a mark's number in the host: how many open marks are older
abbrev pub mark_number : List ℕ → ℕ → ℕ
mark_number ks n = length ks - suc n

abbrev pub rest_of : {A : Type 0} → List A → List A
rest_of [] = []
rest_of (x ∷ xs) = xs

abbrev pub question : ℕ → List (ℕ × ℕ) → Option ℕ
question i [] = none
question i (q ∷ qs) = cond (q.0 == i) (some q.1) (question i qs)

abbrev pub without : ℕ → List (ℕ × ℕ) → List (ℕ × ℕ)
without i [] = []
without i (q ∷ qs) = cond (q.0 == i) qs (q ∷ without i qs)

module _ {R : Type 0} (r : Run R) where
  abbrev m : Contents
  m = r.context.store

  abbrev h : Host
  h = r.context.host

  abbrev pub absently : Result (Left R) Fault
  absently = leave r absent m h

  abbrev pub closes : (ℕ → Host → Result Host HostFault) → Option ℕ → Result (Left R) Fault
  closes f none = absently
  closes f (some n) =
      raised in_host (f (mark_number r.tokens n) h) >>= λ g.
      Ok (record { answers = done; leaves = record { store = m; host = g }; open_marks = rest_of r.tokens; open_questions = r.questions })

  abbrev pub applies_to : ℕ → Bool → Reply → Option ℕ → Result (Left R) Fault
  applies_to i visible a none = absently
  applies_to i visible a (some q) =
      apply visible q a h m >>= λ x.
      Ok
      (record {
        answers = applied x.goals x.certainty x.equations;
        leaves = record { store = x.store; host = x.host };
        open_marks = r.tokens;
        open_questions = without i r.questions;
      })

  -- call number `length history`
  unfoldable pub step : Call R → Result (Left R) Fault
  step (new_variable s u) = raised in_host (make_variable s u r.context) >>= λ c. leave r (held_at c.0) c.1.store c.1.host
  step new_universe = raised in_host (open_universe h) >>= λ g. leave r (universe (universes g.log)) m g
  step (relating a b) = raised in_host (relate_handles m.trees a b h) >>= λ g. leave r done m g
  step (joining a b) = raised in_host (join a b h) >>= λ g. leave r done m g
  step (asking q) =
      canonicalize_goal h.log q m >>= λ x.
      Ok
      (record {
        answers = asked x.originals x.canonical_goal;
        leaves = record { store = x.store; host = h };
        open_marks = r.tokens;
        open_questions = (length r.history, x.originals) ∷ r.questions;
      })
  step (applying i visible a) = applies_to i visible a (question i r.questions)
  step marking =
      raised in_host (mark h) >>= λ g.
      Ok
      (record {
        answers = done;
        leaves = record { store = m; host = g };
        open_marks = length r.history ∷ r.tokens;
        open_questions = r.questions;
      })
  step (keeping i) = closes keep (place_of ℕ_discrete i r.tokens)
  step (undoing i) = closes undo (place_of ℕ_discrete i r.tokens)
  step (adding_leaf x) = raised from_store (put m (leaf x)) >>= λ n. leave r (held_at n.0) n.1 h
  step (adding_node k ns) =
      raised from_store (checked m.trees k 0 ns) >>= λ ts.
      raised from_store (put m (assembled k ts)) >>= λ n.
      leave r (held_at n.0) n.1 h

  -- a call as it went; a refusal leaves everything as it was
  abbrev pub went : Call R → Reported R → Done R
  went c a = record { call = c; answer = a; log_then = h.log; held_then = length m.trees }

  unfoldable pub recorded : Call R → Result (Left R) Fault → Run R
  recorded c (Ok x) =
      record {
        context = x.leaves;
        tokens = x.open_marks;
        questions = x.open_questions;
        history = went c x.answers ∷ r.history;
      }
  recorded c (Err f) =
      record { context = r.context; tokens = r.tokens; questions = r.questions; history = went c (refusal f) ∷ r.history }

abbrev pub begun : {R : Type 0} → Sizes → Run R
begun z = record { context = new_context z; tokens = []; questions = []; history = [] }

unfoldable pub run : {R : Type 0} → Sizes → List (Call R) → Run R
run z [] = begun z
run z (c ∷ cs) = let r = run z cs in recorded r c (step r c)
