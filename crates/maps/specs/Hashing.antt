-- What the hasher of the index makes of the words that are written to it. Nothing rests on which numbers it gives.
-- A state is a number below 2 ^ 64.
use Rattle.std.specs.Prelude.{ℕ, ◌+◌, ◌*◌, ◌/◌, ◌%◌, ◌^◌, List, [], ◌∷◌, length, if◌then◌else◌, nat_eq, bit_xor}
use Rattle.std.specs.Int.{w16, w32, w64, from_le_bytes}
use Rattle.std.specs.List.{fold}
use Rattle.maps.specs.declared.hasher.WordHasher.{WordHasher}

unfoldable pub started : WordHasher
started = record { state = 0 }

-- the state after one word more
unfoldable pub stepped : WordHasher → ℕ → WordHasher
stepped h word = record { state = ((h.state * 0x6e04_f309_2edb_ecb3) % 2 ^ 64 + bit_xor word (word / 2 ^ 32)) % 2 ^ 64 }

-- the words in some bytes: two, four and eight bytes are one number, the lowest byte first; of all else each byte is a word
unfoldable pub words : List ℕ → List ℕ
words bytes =
    if nat_eq (length bytes) 2 then from_le_bytes w16 bytes ∷ []
    else (if nat_eq (length bytes) 4 then from_le_bytes w32 bytes ∷ [] else (if nat_eq (length bytes) 8 then from_le_bytes w64 bytes ∷ [] else bytes))

unfoldable pub written : WordHasher → List ℕ → WordHasher
written h bytes = fold stepped h (words bytes)

unfoldable pub finished : WordHasher → ℕ
finished h = (h.state * 0x39e4_a6fa_6dd7_78f3) % 2 ^ 64 / 2 ^ 32
