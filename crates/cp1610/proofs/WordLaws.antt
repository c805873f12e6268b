-- Laws of the machine's words: flags as numbers, and marks tested one by one.
use Prim.Native.Nat.{ℕ}
use mathlib.Core.Path.{◌≡◌, refl}
use mathlib.Core.Bool.{Bool, true, false}
use mathlib.Core.List.{List}
use mir.Val.{bool_byte}
use lib.ListN.{get_or}
use Rattle.cp1610.specs.Words.{eight, is_set, flag_word, unpacked}

-- a bool cast to a number is 1 or 0
pub cast-flag : (b : Bool) → bool_byte b ≡ flag_word b
cast-flag true = refl
cast-flag false = refl

-- words whose marks were tested one by one stand for the machine with these marks
module _ (words : List ℕ) {s z o c i d halted ready level mark : Bool} where
  pub tested-marks : halted ≡ is_set (get_or words 14 0) →
      s ≡ is_set (get_or words 8 0) →
      z ≡ is_set (get_or words 9 0) →
      o ≡ is_set (get_or words 10 0) →
      c ≡ is_set (get_or words 11 0) →
      i ≡ is_set (get_or words 12 0) →
      d ≡ is_set (get_or words 13 0) →
      ready ≡ is_set (get_or words 15 0) →
      level ≡ is_set (get_or words 16 0) →
      mark ≡ is_set (get_or words 17 0) →
      record {
        registers = eight words;
        flags = record { s = s; z = z; o = o; c = c };
        switches = record { i = i; d = d };
        running = record { halted = halted; ready = ready };
        intrm = record { level = level; mark = mark };
      }
      ≡ unpacked words
  unfolding unpacked
  tested-marks eh es ez eo ec ei ed er el em =
      λ t.
      record {
        registers = eight words;
        flags = record { s = es t; z = ez t; o = eo t; c = ec t };
        switches = record { i = ei t; d = ed t };
        running = record { halted = eh t; ready = er t };
        intrm = record { level = el t; mark = em t };
      }
