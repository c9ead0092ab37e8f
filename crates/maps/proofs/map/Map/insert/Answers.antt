use Rattle.std.proofs.Common.{◌<◌, length, sym, ◌∙◌, arith}
use Rattle.maps.proofs.Tables.{many_pairs, room_is}
use Rattle.maps.proofs.Laws.{one_digest, bounded_revalued, bounded_more, inserts_old, inserts_new, inserts_not}
use Rattle.maps.proofs.map.Map.insert.Goals as goal

pub returns-in-Some : goal.returns-in-Some
returns-in-Some g c =
    let e =
    inserts_old _ _ g.met.K.Eq.laws (one_digest g.met.K.Hash.respects_eq) _ _ c.args.key _ _ (sym c.locate.ensures.place ∙ c.in-Some.is) c.replace.ensures
    in
    record { after = e.0; law = e.1; few = bounded_revalued _ _ _ _ c.locate.ensures.few c.replace.ensures }

pub returns-then-self-clause-after : goal.returns-then-self-clause-after
returns-then-self-clause-after g c =
    let m = c.self.invariant in
    inserts_not _ _ _ _ _ (sym c.locate.ensures.place ∙ c.in_default.is)
    (omega (arith, c.if-self.true, many_pairs m c.self.view_is, room_is m c.self.view_is))

pub returns : goal.returns
returns g c =
    let m = c.self.invariant in
    let t = c.args.self.now in
    let room : length t.pairs < t.room = omega (arith, c.if-self.false, many_pairs m c.self.view_is, room_is m c.self.view_is) in
    let e =
    inserts_new _ _ g.met.K.Eq.laws (one_digest g.met.K.Hash.respects_eq) _ _ c.args.key _
    (sym c.locate.ensures.place ∙ c.in_default.is)
    room (rw c.digest-hash.ensures at c.push.ensures)
    in
    record { after = e.0; law = e.1; few = bounded_more _ _ _ c.locate.ensures.few room c.push.ensures }
