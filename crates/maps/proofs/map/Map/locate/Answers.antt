use Rattle.std.proofs.Common.{rules}
use Rattle.maps.proofs.Tables.{bounded, place_is, place_in}
use Rattle.maps.proofs.map.Map.locate.Goals as goal

pub returns-clause-place : goal.returns-clause-place
returns-clause-place g c = rw (← c.self.view_is) (place_is _ _ _ _ _ c.requires _ _ c.seek.ensures (λ s b says. search rules))

pub returns-clause-within : goal.returns-clause-within
returns-clause-within g c = place_in _ _ _ _ _ (returns-clause-place g c)

pub returns-clause-few : goal.returns-clause-few
returns-clause-few g c = bounded c.self.invariant c.self.view_is
