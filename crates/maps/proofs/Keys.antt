-- Keys that `==` finds equal are the same.
use Rattle.std.proofs.Common.{◌≡◌, true, eqb}
use Rattle.std.proofs.lemmas.Bool.{eqb-true}
use Rattle.std.specs.Cmp.{first_so, second_so}
use Rattle.maps.specs.declared.key.Placeholder.{Placeholder}
use Rattle.maps.specs.declared.key.TypeVariable.{TypeVariable}
use Rattle.maps.specs.contracts.key.PlaceholderPartialEq.TheImpl.{ghosts as placeholders}
use Rattle.maps.specs.contracts.key.TypeVariablePartialEq.TheImpl.{ghosts as variables}

pub placeholder_is : (a b : Placeholder) → placeholders.eq a b ≡ true → a ≡ b
placeholder_is a b e =
    let u = eqb-true a.universe b.universe (first_so (eqb a.universe b.universe) (eqb a.number b.number) e) in
    let n = eqb-true a.number b.number (second_so (eqb a.universe b.universe) (eqb a.number b.number) e) in
    λ i. record { universe = u i; number = n i }

pub variable_is : (a b : TypeVariable) → variables.eq a b ≡ true → a ≡ b
variable_is a b e = let n = eqb-true a.number b.number e in λ i. record { number = n i }
