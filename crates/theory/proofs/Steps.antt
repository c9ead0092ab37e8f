-- Steps that are accepted: what follows from the answer `Ok`.
use Rattle.std.proofs.Common.{◌≡◌, ℕ, Bool, true, false, Ok, Err, Result, refl, ap, arith}
use mathlib.Core.Option.{Option, none, some}
use Rattle.theory.specs.Outcomes.{◌>>=◌, must, mustn't, raised, given}

pub never_ok : {A B E : Type 0} (f : E) (a : A) → Err f ≡ Ok a → B
never_ok f a e = let z : ◌≡◌ {A = ℕ} 0 1 = cc in absurd (omega arith)

pub ok_one : {A E : Type 0} (a b : A) → ◌≡◌ {A = Result A E} (Ok a) (Ok b) → a ≡ b
ok_one a b e = cc

pub some_one : {A : Type 0} (a b : A) → some a ≡ some b → a ≡ b
some_one a b e = cc

pub none_some : {A B : Type 0} (a : A) → none ≡ some a → B
none_some a e = let z : ◌≡◌ {A = ℕ} 0 1 = cc in absurd (omega arith)

pub bind_ok : {A B E : Type 0} (o : Result A E) (f : A → Result B E) (b : B) → (o >>= f) ≡ Ok b → (a : A) × (o ≡ Ok a) × (f a ≡ Ok b)
bind_ok (Ok a) f b e = (a, refl, e)
bind_ok (Err k) f b e = never_ok k b e

pub must_ok : {E : Type 0} (b : Bool) (k : E) (x : Unit {0}) → must b k ≡ Ok x → b ≡ true
must_ok true k x e = refl
must_ok false k x e = never_ok k x e

pub mustn't_ok : {E : Type 0} (b : Bool) (k : E) (x : Unit {0}) → mustn't b k ≡ Ok x → b ≡ false
mustn't_ok true k x e = never_ok k x e
mustn't_ok false k x e = refl

pub given_ok : {A E : Type 0} (o : Option A) (k : E) (a : A) → given o k ≡ Ok a → o ≡ some a
given_ok none k a e = never_ok k a e
given_ok (some b) k a e = ap {B = Option _} some (ok_one b a e)

pub raised_ok : {A E F : Type 0} (raise : E → F) (o : Result A E) (a : A) → raised raise o ≡ Ok a → o ≡ Ok a
raised_ok raise (Ok b) a e = ap {B = Result _ _} Ok (ok_one b a e)
raised_ok raise (Err k) a e = never_ok (raise k) a e
