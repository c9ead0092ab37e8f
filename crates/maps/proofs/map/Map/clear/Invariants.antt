use Rattle.std.proofs.Common.{◌≡◌, length}
use Rattle.maps.proofs.map.Map.clear.Given as goal

abbrev pub invariant-loop-self : goal.invariant-loop-self
invariant-loop-self g l = l.self.room ≡ l.initial.self.room

abbrev pub decreases-loop-self : goal.decreases-loop-self
decreases-loop-self g l = length l.self.pairs
