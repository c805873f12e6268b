-- Document 02, [5], "Default wait limit": "A limit of 0 should mean 48. .. Explicit limits answer as before." What the three calls of the meter answer at a
-- limit that is given, at 0, and at two limits.
use Rattle.std.specs.Prelude.{ℕ, ◌<◌, ◌≤◌, ◌≡◌, cond, ◌||◌, List, [], ◌∷◌, ltb}
use Rattle.refusal.specs.declared.Refusal.TheVariants.{LimitTooHigh, WrongSetLength}
use Rattle.refusal.specs.Refusals.{refusal_number}
use Rattle.refusal.specs.Report.{refused, answered, UnlessRefused}
use Rattle.memory.specs.Bus.{Bus, bus_of, read_of, admission_of, unless_barred}
use Rattle.bitset.specs.Bits.{is_wrong_length, contains}
use Rattle.meter.specs.Answer.{wait, over, longest, no_over, over_at}
use Rattle.meter.specs.Walk.{highest_limit, limit_of, walk_from}
use Rattle.meter.specs.Meter.{wait_of, named_of, scan_admission, every_address, region_of, region_reached_of}

-- "Explicit limits answer as before": each call at every limit but 0, with its refusals, by the walk at the limit that is given. No default stands in
-- these equations, so they hold in the same words where 0 means 57.
pub record ExplicitLimits : Type 0 where
  pub waits :
      (b : Bus) (a limit : ℕ) → 0 < limit →
      wait_of b a limit
      ≡ unless_barred (admission_of b) (λ r. refused (refusal_number r))
      (cond (ltb highest_limit limit) (refused (refusal_number LimitTooHigh)) (answered (walk_from (read_of b) limit a)))
  pub regions :
      (b : Bus) (first last limit : ℕ) → 0 < limit →
      region_of b first last limit
      ≡ unless_barred (scan_admission b first last limit) (λ r. refused (refusal_number r))
      (answered (named_of every_address (walk_from (read_of b) limit) first last))
  pub reached :
      (b : Bus) (first last limit : ℕ) (clear set : List ℕ) → 0 < limit →
      region_reached_of b first last limit clear set
      ≡ unless_barred (scan_admission b first last limit) (λ r. refused (refusal_number r))
      (cond (is_wrong_length clear || is_wrong_length set) (refused (refusal_number WrongSetLength))
      (answered (named_of (contains clear) (walk_from (read_of b) limit) first last)))

-- "A limit of 0 should mean 48."
pub record ZeroMeans48 : Type 0 where
  pub waits : (b : Bus) (a : ℕ) → wait_of b a 0 ≡ wait_of b a 48
  pub regions : (b : Bus) (first last : ℕ) → region_of b first last 0 ≡ region_of b first last 48
  pub reached : (b : Bus) (first last : ℕ) (clear set : List ℕ) → region_reached_of b first last 0 clear set ≡ region_reached_of b first last 48 clear set

-- A lower limit says Over more often, and else nothing new: what a call answers without Over it answers at every higher limit
pub record HigherLimits : Type 0 where
  pub waits :
      (b : Bus) (a limit higher : ℕ) → limit_of limit ≤ limit_of higher → higher ≤ highest_limit →
      UnlessRefused (λ x. (x ≡ over → ⊥) → wait_of b a higher ≡ answered x) (wait_of b a limit)
  pub regions :
      (b : Bus) (first last limit higher : ℕ) → limit_of limit ≤ limit_of higher → higher ≤ highest_limit →
      UnlessRefused (λ n. n.lowest_over ≡ no_over → region_of b first last higher ≡ answered n) (region_of b first last limit)
  pub reached :
      (b : Bus) (first last limit higher : ℕ) (clear set : List ℕ) → limit_of limit ≤ limit_of higher → higher ≤ highest_limit →
      UnlessRefused (λ n. n.lowest_over ≡ no_over → region_reached_of b first last higher clear set ≡ answered n) (region_reached_of b first last limit clear set)

-- three MVO@ R0,R1, six CLRC and NOP: 9, 4 and 6 cycles each, 57 from the first and 48 from the second
abbrev pub three_stores : Bus
three_stores = bus_of (0x248 ∷ 0x248 ∷ 0x248 ∷ 0x006 ∷ 0x006 ∷ 0x006 ∷ 0x006 ∷ 0x006 ∷ 0x006 ∷ 0x034 ∷ [])

-- "Two titles pass at 57 cycles and still tear when sound is on": such a one passes at 57 and no more at 0, and 48 cycles pass at both
pub record LimitsInstance : Type 0 where
  pub passes_at_57 : wait_of three_stores 0 57 ≡ answered (wait 57)
  pub over_at_0 : wait_of three_stores 0 0 ≡ answered over
  pub same_at_57 : wait_of three_stores 1 57 ≡ answered (wait 48)
  pub same_at_0 : wait_of three_stores 1 0 ≡ answered (wait 48)
  pub region_at_57 : region_of three_stores 0 9 57 ≡ answered (record { longest_wait = longest 57 0; lowest_over = no_over })
  pub region_at_0 : region_of three_stores 0 9 0 ≡ answered (record { longest_wait = longest 48 1; lowest_over = over_at 0 })
  -- of every memory: what 0 answers without Over it answered where it meant 57
  pub as_before : (b : Bus) (a : ℕ) → UnlessRefused (λ x. (x ≡ over → ⊥) → wait_of b a 57 ≡ answered x) (wait_of b a 0)
