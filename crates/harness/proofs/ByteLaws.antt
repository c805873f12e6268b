-- Laws of bytes that are put into a room one by one, of which i were put.
use Rattle.std.proofs.Common.{◌≡◌, ℕ, suc, ◌+◌, ◌*◌, ◌<◌, ◌≤◌, min, inl, inr, List, [], ◌∷◌, length, drop, set, refl, add-one, arith, length-drop}
use Rattle.std.proofs.lemmas.Bool.{cases_lt}
use Rattle.std.proofs.lemmas.List.{drop-drop}
use lib.Seq.{set_out}
use Rattle.harness.specs.Text.{hex_number}
use Rattle.harness.specs.Bytes.{pair_bytes, with_bytes}

-- a byte for each two digits, and one for a last digit that stands alone
pub pairs-enough : (digits : List ℕ) → length digits ≤ 2 * length (pair_bytes digits)
unfolding pair_bytes
pairs-enough [] = omega arith
pairs-enough (a ∷ []) = omega arith
pairs-enough (a ∷ b ∷ digits) = omega (arith, pairs-enough digits)

pub pairs-few : (digits : List ℕ) → 2 * length (pair_bytes digits) ≤ length digits + 1
unfolding pair_bytes
pairs-few [] = omega arith
pairs-few (a ∷ []) = omega arith
pairs-few (a ∷ b ∷ digits) = omega (arith, pairs-few digits)

-- the bytes of digits: that of the first pair, and those of the digits behind it
bytes-of-more : (digits : List ℕ) → 0 < length digits → pair_bytes digits ≡ hex_number 2 digits ∷ pair_bytes (drop 2 digits)
unfolding pair_bytes
bytes-of-more [] h = absurd (omega arith)
bytes-of-more (a ∷ []) h = refl
bytes-of-more (a ∷ b ∷ digits) h = refl

bytes-of-none : (digits : List ℕ) → length digits ≤ 0 → pair_bytes digits ≡ []
unfolding pair_bytes
bytes-of-none [] h = refl
bytes-of-none (a ∷ digits) h = absurd (omega arith)

-- past its end the room stays
past_end : (at : ℕ) (bytes room : List ℕ) → length room ≤ at → with_bytes at bytes room ≡ room
unfolding with_bytes
past_end at [] room h = refl
past_end at (b ∷ bytes) room h = rw (set_out room at b h) (past_end (suc at) bytes room (omega arith))

module _ (digits room : List ℕ) (i : ℕ) where
  -- one byte more
  pub one_more :
      2 * i < length digits →
      with_bytes (i + 1) (pair_bytes (drop (2 * (i + 1)) digits)) (set room i (hex_number 2 (drop (2 * i) digits)))
      ≡ with_bytes i (pair_bytes (drop (2 * i) digits)) room
  unfolding with_bytes
  one_more h =
      let e : 2 * (i + 1) ≡ 2 * i + 2 = omega arith in
      let d : drop (2 * (i + 1)) digits ≡ drop 2 (drop (2 * i) digits) = rw (e, drop-drop) in
      rw (d, add-one, bytes-of-more (drop (2 * i) digits) (omega (arith, length-drop (2 * i) digits)))

  -- no digit is left, or no room
  pub all_put : min (length (pair_bytes digits)) (length room) ≤ i → with_bytes i (pair_bytes (drop (2 * i) digits)) room ≡ room
  unfolding with_bytes
  all_put h =
      elim (cases_lt i (length room)) [
        | inl more ↦ rw (bytes-of-none (drop (2 * i) digits) (omega (arith, length-drop (2 * i) digits, pairs-enough digits)))
        | inr full ↦ past_end i (pair_bytes (drop (2 * i) digits)) room full
      ]
