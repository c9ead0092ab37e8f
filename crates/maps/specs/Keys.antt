-- The hash of a key, by what the key feeds a hasher. Nothing rests on which hash it is.
use Rattle.std.specs.Prelude.{ℕ, ◌%◌, ◌^◌}
use Rattle.std.specs.List.{fold}
use Rattle.std.specs.Hash.{HashWrites}
use Rattle.maps.specs.Hashing.{started, written, finished}

unfoldable pub digest : {K : Type 0} → (K → HashWrites) → K → ℕ
digest input k = finished (fold written started (input k)) % 2 ^ 32
