-- The laws of records put into memory one after the other.
use Prim.Native.Nat.{ℕ, ◌+◌, ◌-◌, ◌<◌, ◌≤◌}
use mathlib.Core.Path.{◌≡◌, refl, ◌∙◌}
use mathlib.Core.Bool.{Bool, true, false, cond}
use mathlib.Core.List.{List, [], ◌∷◌, ◌++◌}
use native.Mathlib.Omega.{arith}
use native.Mathlib.Decide.{dec_le}
use borrow.Author.Tests.{leb-true}
use lib.ListN.{length}
use Rattle.memory.specs.Memory.{peek_of}
use Rattle.records.specs.Records.{Record, is_within, all_within, overwrite, placed}
use Rattle.records.specs.Laws.{Covers, Untouched, PlacedLaws}
use Rattle.records.proofs.OverLaws.{overwrite-length, read-inside, read_below, read_above}

-- the first record lies within, and so do the others
pub record Split (len : ℕ) (r : Record) (rs : List Record) : Type 0 where
  pub here : r.address + length r.words ≤ len
  pub later : all_within len rs ≡ true

pub split : (len : ℕ) (r : Record) (rs : List Record) → all_within len (r ∷ rs) ≡ true → Split len r rs
split len r rs = go (is_within len r.address (length r.words)) refl
  where
    go : (t : Bool) → is_within len r.address (length r.words) ≡ t → cond t (all_within len rs) false ≡ true → Split len r rs
    go true e h = record { here = leb-true (r.address + length r.words) len e; later = h }
    go false e h = cc

in_turn : (m : List ℕ) (rs qs : List Record) → placed m (rs ++ qs) ≡ placed (placed m rs) qs
in_turn m [] qs = refl
in_turn m (r ∷ rs) qs = in_turn (overwrite m r.address r.words) rs qs

-- the memory with the first record has the old length, and what lies within the old memory lies within it
module _ (m : List ℕ) (r : Record) (rs : List Record) (h : all_within (length m) (r ∷ rs) ≡ true) where
  abbrev next : List ℕ
  next = overwrite m r.address r.words

  next-length : length next ≡ length m
  next-length = overwrite-length m r.address r.words (split (length m) r rs h).here

  next-within : all_within (length next) rs ≡ true
  next-within = rw next-length (split (length m) r rs h).later

  -- a word that the record is not put over
  next-outside : (a : ℕ) → (Covers r a → ⊥) → peek_of next a ≡ peek_of m a
  unfolding peek_of
  next-outside a o = go (dec_le r.address a) (dec_le (r.address + length r.words) a)
    where
      at : ℕ
      at = r.address

      n : ℕ
      n = length r.words

      w : at + n ≤ length m
      w = (split (length m) r rs h).here

      go : Dec (at ≤ a) → Dec (at + n ≤ a) → peek_of (overwrite m r.address r.words) a ≡ peek_of m a
      go (no l) k = read_below m r.address r.words w a 0xFFFF (omega arith)
      go (yes l) (yes k) =
          let e : at + n + (a - (at + n)) ≡ a = omega arith in
          rw e at (read_above m r.address r.words w (a - (at + n)) 0xFFFF)
      go (yes l) (no k) = absurd (o (l, omega arith))

keeps_length : (m : List ℕ) (rs : List Record) → all_within (length m) rs ≡ true → length (placed m rs) ≡ length m
keeps_length m [] h = refl
keeps_length m (r ∷ rs) h = keeps_length (next m r rs h) rs (next-within m r rs h) ∙ next-length m r rs h

outside : (m : List ℕ) (rs : List Record) (a : ℕ) → all_within (length m) rs ≡ true → Untouched rs a → peek_of (placed m rs) a ≡ peek_of m a
outside m [] a h u = refl
outside m (r ∷ rs) a h u =
    outside (next m r rs h) rs a (next-within m r rs h) u.1 ∙ next-outside m r rs h a u.0

later_wins : (m : List ℕ) (rs : List Record) (r : Record) (qs : List Record) (j : ℕ) → all_within (length m) (rs ++ r ∷ qs) ≡ true → j < length r.words
    → Untouched qs (r.address + j) → peek_of (placed m (rs ++ r ∷ qs)) (r.address + j) ≡ peek_of r.words j
unfolding peek_of
later_wins m [] r qs j h l u =
    outside (next m r qs h) qs (r.address + j) (next-within m r qs h) u
    ∙ read-inside m r.address r.words (split (length m) r qs h).here j 0xFFFF l
later_wins m (q ∷ rs) r qs j h l u =
    later_wins (next m q (rs ++ r ∷ qs) h) rs r qs j (next-within m q (rs ++ r ∷ qs) h) l u

pub placed-laws : PlacedLaws
placed-laws = record { in_turn = in_turn; keeps_length = keeps_length; outside = outside; later_wins = later_wins }
