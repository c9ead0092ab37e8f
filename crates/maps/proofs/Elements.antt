-- The element at a place.
use Rattle.std.proofs.Common.{◌≡◌, ℕ, zero, suc, ◌<◌, ◌≤◌, List, [], ◌∷◌, length, get_or, refl, arith}
use mathlib.Core.Option.{none, some}
use Rattle.theory.specs.Outcomes.{at}

module _ {A : Type 0} where
  pub at_in : (xs : List A) (i : ℕ) (d : A) → i < length xs → at xs i ≡ some (get_or xs i d)
  at_in [] i d l = absurd (omega arith)
  at_in (x ∷ xs) zero d l = refl
  at_in (x ∷ xs) (suc i) d l = at_in xs i d (omega arith)

  pub at_out : (xs : List A) (i : ℕ) → length xs ≤ i → at xs i ≡ none
  at_out [] i l = refl
  at_out (x ∷ xs) zero l = absurd (omega arith)
  at_out (x ∷ xs) (suc i) l = at_out xs i (omega arith)
