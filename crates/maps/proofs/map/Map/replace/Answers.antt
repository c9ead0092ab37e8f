use Rattle.std.proofs.Common.{◌≡◌, ◌<◌, map, set, take, sym, refl, subst, arith}
use Rattle.maps.specs.declared.slot.Slot.{Slot}
use Rattle.maps.specs.Means.{pair_of, IsIndexed}
use Rattle.maps.specs.Pairs.{revalued}
use Rattle.maps.proofs.Tables.{many_pairs}
use Rattle.maps.proofs.Indexed.{indexed_revalued, pairs-revalued}
use Rattle.maps.proofs.map.Map.replace.Goals as goal

pub invariant_of-self : goal.invariant_of-self
invariant_of-self g c =
    let s = c.self.inside in
    let m = c.self.invariant in
    let i = c.args.place in
    let inside : i < s.len = omega (arith, many_pairs m c.self.view_is) in
    subst (λ (old : Slot g.row.K.Denot g.row.V.Denot). IsIndexed (set s.slots.now i (record { key = old.key; value = c.args.value; hash = old.hash; next = old.next })) s.buckets.now s.len s.limit)
    (sym c.index-slots-place.is)
    (indexed_revalued _ _ _ _ m i inside c.index-slots-place.result c.args.value)

pub returns : goal.returns
returns g c =
    let s = c.self.inside in
    let m = c.self.invariant in
    let i = c.args.place in
    let inside : i < s.len = omega (arith, many_pairs m c.self.view_is) in
    let e : map pair_of (take s.len (set s.slots.now i (record { key = c.index-slots-place.result.key; value = c.args.value; hash = c.index-slots-place.result.hash; next = c.index-slots-place.result.next }))) ≡ revalued (map pair_of (take s.len s.slots.now)) i c.args.value
    = subst (λ (old : Slot g.row.K.Denot g.row.V.Denot). map pair_of (take s.len (set s.slots.now i (record { key = old.key; value = c.args.value; hash = old.hash; next = old.next }))) ≡ revalued (map pair_of (take s.len s.slots.now)) i c.args.value)
    (sym c.index-slots-place.is)
    (pairs-revalued s.slots.now s.len i c.index-slots-place.result c.args.value inside (omega (arith, m.within, m.lent)))
    in
    rw (e, ← c.self.view_is) refl
