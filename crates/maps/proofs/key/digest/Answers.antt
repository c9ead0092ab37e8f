use Rattle.std.proofs.Common.{◌∙◌, rules}
use Rattle.std.proofs.lemmas.Nat.{and_mask}
use Rattle.maps.specs.Keys.{digest}
use Rattle.maps.proofs.key.digest.Goals as goal

pub returns : goal.returns
unfolding digest
returns g c = and_mask c.finish.result 32 ∙ search rules
