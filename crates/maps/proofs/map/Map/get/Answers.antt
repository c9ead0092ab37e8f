use Rattle.std.proofs.Common.{◌<◌, arith}
use Rattle.maps.proofs.Tables.{many_pairs, pair_at, found_at}
use Rattle.maps.proofs.map.Map.get.Goals as goal

pub returns : goal.returns
returns g c =
    let m = c.self.invariant in
    let inside : c.in_ok-place.place < c.self.inside.len = omega (arith, many_pairs m c.self.view_is, c.in_ok-place.ensures.within) in
    record {
      answer = found_at _ _ _ _ c.in_ok-place.place _ c.in_ok-place.ensures.place (pair_at m c.self.view_is c.in_ok-place.place _ inside);
      few = c.in_ok-place.ensures.few;
    }
