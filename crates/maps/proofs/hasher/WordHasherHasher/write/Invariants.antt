use Rattle.std.proofs.Common.{◌≡◌, drop}
use Rattle.std.specs.List.{fold}
use Rattle.maps.specs.Hashing.{stepped}
use Rattle.maps.proofs.hasher.WordHasherHasher.write.Given as goal

-- what is left of the bytes gives the whole
abbrev pub invariant-loop-byte : goal.invariant-loop-byte
invariant-loop-byte l = fold stepped l.self (drop l.byte-index l.bytes) ≡ fold stepped l.initial.self l.bytes
