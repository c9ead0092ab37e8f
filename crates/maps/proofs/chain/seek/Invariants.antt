use Rattle.std.proofs.Common.{length}
use Rattle.std.specs.Fn.{FnReturnsAt}
use Rattle.maps.proofs.Walk.{Left, link_to}
use Rattle.maps.proofs.chain.seek.Given as goal

-- from the place on, the test has said no of each entry with the hash
abbrev pub invariant-loop-at : goal.invariant-loop-at
invariant-loop-at g l = Left g.T.Linked.hash_of (FnReturnsAt g.F.Fn l.is_it) l.hash (length l.buckets) l.entries (link_to l.at)

abbrev pub decreases-loop-at : goal.decreases-loop-at
decreases-loop-at g l = link_to l.at
