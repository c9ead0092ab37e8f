use Rattle.std.proofs.Common.{refl, arith}
use Rattle.maps.proofs.Tables.{many_pairs, room_is}
use Rattle.maps.proofs.Indexed.{indexed_push}
use Rattle.maps.proofs.map.Map.push.Goals as goal

pub invariant_of-self : goal.invariant_of-self
invariant_of-self g c =
    let m = c.self.invariant in
    rw (c.put_first-next.ensures.next, c.put_first-next.ensures.after)
    (indexed_push _ _ _ _ m (omega (arith, many_pairs m c.self.view_is, room_is m c.self.view_is)) _ refl)
