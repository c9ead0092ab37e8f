use Rattle.std.proofs.Common.{length, refl, sym, ap, ◌∙◌}
use Rattle.std.proofs.lemmas.Nat.{mod_below}
use Rattle.maps.specs.Chains.{place_of}
use Rattle.maps.proofs.Walk.{left_first, found_here, left_next, left_less, found_nowhere}
use Rattle.maps.proofs.chain.seek.Goals as goal
use Rattle.maps.proofs.chain.seek.Goals.{else-hash-via-then-hash+else-is_it, else-hash-via-else-hash}

pub loop-at-init : goal.loop-at-init
loop-at-init g c =
    left_first _ _ _ _ _ _ _ refl c.requires.chained (mod_below c.args.hash (length c.args.buckets.now) c.requires.some) _ (rw (c.from.ensures, c.bucket_of.ensures) at c.place-at.ensures)

pub returns-then-is_it : goal.returns-then-is_it
returns-then-is_it g c =
    found_here _ _ _ _ _ _ _ refl c.requires.chained _ c.loop-at.invariant _ c.in-Some.is _ c.index-entries-place.is
    (sym c.hash.ensures ∙ c.if-hash.true)
    (record { shown = _; shows = refl; says = record { met = rw c.if-is_it.true at c.is_it.ensures } })

pub loop-at-smaller : goal.loop-at-smaller
loop-at-smaller g c =
    left_less _ _ _ _ _ _ _ refl c.requires.chained _ c.loop-at.invariant _ c.in-Some.is _ c.index-entries-place.is
    _ (c.place-at-in-Some.ensures ∙ ap place_of c.next.ensures)

-- the test says no, or the hash is another
pub loop-at-preserved : goal.loop-at-preserved
loop-at-preserved g c =
    left_next _ _ _ _ _ _ _ refl c.requires.chained _ c.loop-at.invariant _ c.in-Some.is _ c.index-entries-place.is
    _ (c.place-at-in-Some.ensures ∙ ap place_of c.next.ensures)
    (λ is.
    elim c.else-hash.branch [
      | else-hash-via-then-hash+else-is_it v ↦ record { shown = _; shows = refl; says = record { met = rw v.if-is_it.false at v.is_it.ensures } }
      | else-hash-via-else-hash v ↦ absurd (v.if-hash.false (c.hash.ensures ∙ is))
    ])

pub returns : goal.returns
returns g c = found_nowhere _ _ _ _ _ _ c.in_default.is c.loop-at.invariant
