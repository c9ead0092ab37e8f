use Rattle.std.proofs.Common.{◌≡◌, ◌+◌, ◌-◌, arith}
use Rattle.maps.proofs.Tables.{many_pairs}
use Rattle.maps.proofs.Indexed.{indexed_pop}
use Rattle.maps.proofs.map.Map.shorten.Goals as goal

pub invariant_of-self : goal.invariant_of-self
invariant_of-self g c =
    let m = c.self.invariant in
    let back : c.self.inside.len ≡ (c.self.inside.len - 1) + 1 = omega (arith, many_pairs m c.self.view_is) in
    rw c.take_first.ensures (indexed_pop _ _ _ _ _ (rw back at m))
