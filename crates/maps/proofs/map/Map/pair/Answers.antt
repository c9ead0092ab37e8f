use Rattle.std.proofs.Common.{sym, ap}
use Rattle.maps.specs.Pairs.{shown}
use Rattle.maps.proofs.Tables.{bounded, pair_at, no_pair_at}
use Rattle.maps.proofs.map.Map.pair.Goals as goal

pub returns-then-place-self : goal.returns-then-place-self
returns-then-place-self g c =
    let m = c.self.invariant in
    record { answer = sym (ap shown (no_pair_at m c.self.view_is c.args.place c.if-place-self.true)); few = bounded m c.self.view_is }

pub returns : goal.returns
returns g c =
    let m = c.self.invariant in
    record { answer = sym (ap shown (pair_at m c.self.view_is c.args.place _ c.if-place-self.false)); few = bounded m c.self.view_is }
