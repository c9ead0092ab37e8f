-- The places passed are relabelled, the others are as they were.
use Rattle.std.specs.Prelude.{◌≡◌, ℕ, ◌<◌, ◌≤◌, if◌then◌else◌, nat_eq, slice_index}
use Rattle.host.proofs.plain.calls.relabel.Given as goal

abbrev pub invariant-loop-root : goal.invariant-loop-root
invariant-loop-root l =
    ((k : ℕ) → k < l.root-index → slice_index l.root-items k ≡ (if nat_eq (slice_index l.initial.root-items k) l.from then l.to else slice_index l.initial.root-items k))
    × ((k : ℕ) → l.root-index ≤ k → slice_index l.root-items k ≡ slice_index l.initial.root-items k)
