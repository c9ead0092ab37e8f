use Rattle.std.proofs.Common.{sym, refl, ◌∙◌}
use Rattle.std.specs.List.{fold}
use Rattle.std.proofs.lemmas.List.{at_drop_all}
use Rattle.std.proofs.lemmas.Bool.{ne_eqb}
use Rattle.maps.specs.Hashing.{stepped, words, written}
use Rattle.maps.proofs.hasher.WordHasherHasher.write.Goals as goal

pub returns-then-bytes-eq2 : goal.returns-then-bytes-eq2
unfolding written words
returns-then-bytes-eq2 c = rw (c.take.ensures, c.from.ensures, c.from_le_bytes.ensures, c.if-bytes-eq2.true) refl

pub returns-then-bytes-eq4 : goal.returns-then-bytes-eq4
unfolding written words
returns-then-bytes-eq4 c = rw (c.take-then-bytes-eq4.ensures, c.from-then-bytes-eq4.ensures, c.from_le_bytes-number.ensures, c.if-bytes-eq4.true) refl

pub returns-then-bytes-eq8 : goal.returns-then-bytes-eq8
unfolding written words
returns-then-bytes-eq8 c = rw (c.take-then-bytes-eq8.ensures, c.from_le_bytes-then-bytes-eq8.ensures, c.if-bytes-eq8.true) refl

pub returns-after-loop-byte : goal.returns-after-loop-byte
unfolding written words
returns-after-loop-byte c =
    let l = c.loop-byte in
    let xs = c.args.bytes.now in
    rw (ne_eqb _ _ c.if-bytes-eq2.false, ne_eqb _ _ c.if-bytes-eq4.false, ne_eqb _ _ c.if-bytes-eq8.false)
    (sym (at_drop_all (fold stepped l.self) xs l.byte-index c.loop-byte-test.false) ∙ l.invariant)
