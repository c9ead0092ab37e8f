use Rattle.std.proofs.Common.{◌≡◌, get_or, drop}
use Rattle.theory.specs.Trees.{nil, parts}
use Rattle.walks.specs.Flagged.{flagged, rank}
use Rattle.walks.proofs.Firsts.{first_among}
use Rattle.walks.proofs.flagged.+first_flagged.Given as goal

abbrev pub decreases-first_flagged : goal.decreases-first_flagged
decreases-first_flagged l = rank (get_or l.store.now.trees l.term nil)

-- what is left of the parts decides
abbrev pub invariant-loop-place : goal.invariant-loop-place
invariant-loop-place l =
    first_among (flagged l.flags.bits) (drop l.place (parts (get_or l.store.trees l.term nil)))
    ≡ first_among (flagged l.flags.bits) (parts (get_or l.store.trees l.term nil))
