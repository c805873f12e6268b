-- Bytes at the start of a room, and bytes that are written as pairs of hexadecimal digits.
use Rattle.std.specs.Prelude.{ℕ, suc, ◌≤◌, ◌≡◌, List, [], ◌∷◌, length, take, slice_set}
use Rattle.harness.specs.Text.{hex_number}

-- n elements stand at the start of xs; the second part follows from the first
abbrev pub IsPrefixLen : ℕ → List ℕ → Type 0
IsPrefixLen n xs = (n ≤ length xs) × (n ≡ length (take n xs))

-- the byte of each pair; a last digit that stands alone makes one too
unfoldable pub pair_bytes : List ℕ → List ℕ
pair_bytes [] = []
pair_bytes (a ∷ []) = hex_number 2 (a ∷ []) ∷ []
pair_bytes (a ∷ b ∷ digits) = hex_number 2 (a ∷ b ∷ digits) ∷ pair_bytes digits

-- a room with bytes from a place on; one past its end is passed over
unfoldable pub with_bytes : ℕ → List ℕ → List ℕ → List ℕ
with_bytes at [] room = room
with_bytes at (b ∷ bytes) room = with_bytes (suc at) bytes (slice_set room at b)
