-- What a call answers: a value, or a fault. A fault carries no state, so that the caller's is as it was.
-- The number of each fault is the number of the refusal that a user is shown.
use Rattle.std.specs.Prelude.{◌≡◌, ℕ, zero, suc, Bool, true, false, cond, ◌&&◌, ◌⊎◌, List, [], ◌∷◌, Ok, Err, Result}
use Rattle.std.proofs.Math.Option.{Option, none, some, map}
use Rattle.theory.specs.declared.words.StoreFault.{StoreFault}
use Rattle.theory.specs.declared.words.StoreFault.TheVariants.{NoSuch, BadPart, Full, TooHigh, TooLong}

infixl 10 ◌>>=◌
-- one step after another, up to the first fault
abbrev pub ◌>>=◌ : {A B E : Type 0} → Result A E → (A → Result B E) → Result B E
◌>>=◌ (Ok a) f = f a
◌>>=◌ (Err e) f = Err e

-- the answer, and the state that the call leaves: as it was, where it is refused
abbrev pub answered : {A S E : Type 0} → S → Result (A × S) E → Result A E × S
answered s (Ok r) = (Ok r.0, r.1)
answered s (Err e) = (Err e, s)

-- refused where the test fails
abbrev pub must : {E : Type 0} → Bool → E → Result (Unit {0}) E
must true e = Ok tt
must false e = Err e

-- refused where the test holds
abbrev pub mustn't : {E : Type 0} → Bool → E → Result (Unit {0}) E
mustn't true e = Err e
mustn't false e = Ok tt

-- a fault inside that of a caller
abbrev pub raised : {A E F : Type 0} → (E → F) → Result A E → Result A F
raised raise (Ok a) = Ok a
raised raise (Err f) = Err (raise f)

-- each element in order, up to the first fault
abbrev pub each : {A B E : Type 0} → (A → Result B E) → List A → Result (List B) E
each f [] = Ok []
each f (x ∷ xs) = f x >>= λ y. each f xs >>= λ ys. Ok (y ∷ ys)

-- the same, handing a state on
abbrev pub along : {A S E : Type 0} → (A → S → Result S E) → List A → S → Result S E
along f [] s = Ok s
along f (x ∷ xs) s = f x s >>= λ u. along f xs u

-- the value that is there, or the fault
abbrev pub given : {A E : Type 0} → Option A → E → Result A E
given none e = Err e
given (some a) e = Ok a

abbrev pub is_some : {A : Type 0} → Option A → Bool
is_some none = false
is_some (some a) = true

abbrev pub test : {P : Type 0} → Dec P → Bool
test (yes p) = true
test (no n) = false

-- the element at a place
abbrev pub at : {A : Type 0} → List A → ℕ → Option A
at [] n = none
at (x ∷ xs) zero = some x
at (x ∷ xs) (suc n) = at xs n

-- the place where something first stands
module _ {A : Type 0} (same : Discrete A) where
  abbrev pub place_of : A → List A → Option ℕ
  place_of a [] = none
  place_of a (x ∷ xs) = cond (test (same a x)) (some 0) (map suc (place_of a xs))

abbrev pub all : {A : Type 0} → (A → Bool) → List A → Bool
all f [] = true
all f (x ∷ xs) = f x && all f xs

-- a is an element
abbrev pub Among : {A : Type 0} → A → List A → Type 0
Among a [] = ⊥
Among a (x ∷ xs) = (a ≡ x) ⊎ Among a xs

-- a is the element at a place
abbrev pub StandsAt : {A : Type 0} → List A → ℕ → A → Type 0
StandsAt xs n a = at xs n ≡ some a

-- the number of a store's refusal: 1 no such handle, or a part of the wrong sort; 2 full; 3 too high or too long
abbrev pub store_number : StoreFault → ℕ
store_number (NoSuch n) = 1
store_number (BadPart k) = 1
store_number Full = 2
store_number TooHigh = 3
store_number TooLong = 3
