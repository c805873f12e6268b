-- Laws of limits: at each but 0 the walk is at the limit that is given, at 0 it is at 48, and a higher limit changes no answer but Over.
use Rattle.std.specs.Prelude.{Option, Some, None, Ok}
use Rattle.decode.specs.declared.Instr.{Instr}
use Prim.Native.Nat.{ℕ, zero, suc, ◌+◌, ◌<◌, ◌≤◌}
use mathlib.Core.Path.{◌≡◌, refl, ap, ◌∙◌, subst}
use mathlib.Core.Bool.{Bool, true, ◌||◌}
use mathlib.Core.List.{List}
use native.Mathlib.Omega.{arith}
use lib.Dec.{ltb, lit≤}
use borrow.Author.Tests.{ltb-false, le-ltb, ne_eqb}
use Rattle.refusal.specs.Report.{Report, answered, UnlessRefused}
use Rattle.word.specs.Word.{wrap_add}
use Rattle.word.proofs.Choice.{cond-false, cond_both, cond_either}
use Rattle.memory.specs.Memory.{peek_of}
use Rattle.memory.specs.Map.{bad_map}
use Rattle.memory.specs.Bus.{Bus, read_of, admission_of}
use Rattle.memory.proofs.BusLaws.{unless-in}
use Rattle.bitset.specs.Bits.{is_wrong_length, contains}
use Rattle.decode.specs.declared.rows.Row.{Row}
use Rattle.decode.specs.Decode.{control_instruction, status_instruction, low_instruction, instruction_of, is_unspecified, decode_at}
use Rattle.decode.specs.Rows.{row_of, interruptible_entry, plain_entry, control_entry, register_entry, branch_cycles, branch_entry, memory_words, store_entry}
use Rattle.meter.specs.declared.walk.Place.{Place}
use Rattle.meter.specs.Answer.{Answer, over, no_over, Named}
use Rattle.meter.specs.Walk.{highest_limit, limit_of, start_at, place_after, ends, row_turn, decoded_turn, turn_at, after_turn, walk_by, walk_on, walk_from}
use Rattle.meter.specs.Scan.{longer_than, lower_than, longest_by, lowest_by}
use Rattle.meter.specs.Meter.{answer_from, wait_of, named_of, scan_admission, every_address, region_of, region_reached_of}
use Rattle.meter.specs.Laws.{LowestIs}
use Rattle.meter.specs.Limits.{ExplicitLimits, ZeroMeans48, HigherLimits, LimitsInstance}
use Rattle.meter.proofs.WalkLaws.{after_same, wait-answers}
use Rattle.meter.proofs.ScanLaws.{named-law, named-agree}
use Rattle.meter.proofs.RegionLaws.{unless-either, region-in, lets_in}

-- a limit that is given is walked with
given : (limit : ℕ) → 0 < limit → limit_of limit ≡ limit
unfolding limit_of
given limit h = cond-false _ _ (ne_eqb limit 0 (λ e. omega arith))

answers : (b : Bus) (limit : ℕ) → 0 < limit → answer_from b limit ≡ walk_from (read_of b) limit
answers b limit h = ap (walk_from (read_of b)) (given limit h)

pub explicit-limits : ExplicitLimits
unfolding wait_of region_of region_reached_of
explicit-limits =
    record {
      waits = λ b a limit h. rw (given limit h);
      regions = λ b first last limit h. rw (answers b limit h);
      reached = λ b first last limit clear set h. rw (answers b limit h);
    }

pub zero-means-48 : ZeroMeans48
unfolding limit_of wait_of scan_admission region_of region_reached_of
zero-means-48 = record { waits = λ b a. refl; regions = λ b first last. refl; reached = λ b first last clear set. refl }

-- a walk that is not over a limit, and a higher one
module _ (read : ℕ → ℕ) (limit higher : ℕ) (above : limit ≤ higher) where
  row-higher : (p : Place) (row : Row) → (row_turn limit p row ≡ ends over → ⊥) → row_turn higher p row ≡ row_turn limit p row
  unfolding row_turn
  row-higher p row n =
      cond_either (λ t. (t ≡ ends over → ⊥) → row_turn higher p row ≡ t) (ltb limit (p.sum + row.cycles)) (λ e h. absurd (h refl))
      (λ e h. let k = ltb-false limit (p.sum + row.cycles) e in cond-false _ _ (le-ltb higher (p.sum + row.cycles) (omega arith))) n

  decoded-higher : (p : Place) (x : Option Instr) → (decoded_turn limit p x ≡ ends over → ⊥) → decoded_turn higher p x ≡ decoded_turn limit p x
  decoded-higher p None n = refl
  decoded-higher p (Some i) n = row-higher p (row_of i p.double) n

  turn-higher : (p : Place) → (turn_at read limit p ≡ ends over → ⊥) → turn_at read higher p ≡ turn_at read limit p
  unfolding turn_at
  turn-higher p n = decoded-higher p (decode_at read p.address p.double) n

  counted-higher : (n k : ℕ) (p : Place) → n ≤ k → (walk_by n read limit p ≡ over → ⊥) → walk_by k read higher p ≡ walk_by n read limit p
  unfolding walk_by
  counted-higher zero k p l h = absurd (h refl)
  counted-higher (suc n) zero p l h = absurd (omega arith)
  counted-higher (suc n) (suc k) p l h =
      ap (after_turn (λ a. a) (walk_by k read higher)) (turn-higher p (λ e. h (ap (after_turn (λ a. a) (walk_by n read limit)) e)))
      ∙ after_same (λ a. a) (walk_by k read higher) (walk_by n read limit) (turn_at read limit p)
      (λ q e. counted-higher n k q (omega arith) (λ f. h (ap (after_turn (λ a. a) (walk_by n read limit)) e ∙ f)))

  walk-higher : (a : ℕ) → (walk_from read limit a ≡ over → ⊥) → walk_from read higher a ≡ walk_from read limit a
  unfolding walk_from walk_on
  walk-higher a h = counted-higher (suc limit) (suc higher) (start_at a) (omega arith) h

-- .. from the starts of a region with none over it
named-higher : (is_start : ℕ → Bool) (read : ℕ → ℕ) (limit higher first last : ℕ) → limit ≤ higher → first ≤ last → (named_of is_start (walk_from read limit) first last).lowest_over ≡ no_over →
    named_of is_start (walk_from read higher) first last ≡ named_of is_start (walk_from read limit) first last
named-higher is_start read limit higher first last above low e =
    let none : LowestIs (λ a. is_start a ≡ true) (walk_from read limit) first (suc last) no_over =
    subst (LowestIs (λ a. is_start a ≡ true) (walk_from read limit) first (suc last)) e (named-law is_start (walk_from read limit) first last low).lowest_is in
    named-agree is_start is_start _ _ first last low
    (λ a p q. record { starts = refl; alike = λ m. walk-higher read limit higher above a (none a (record { from = p; to = omega arith; member = m })) })

-- each call at a limit, and at a higher one
module _ (b : Bus) (limit higher : ℕ) (above : limit_of limit ≤ limit_of higher) (low : higher ≤ highest_limit) where
  waits : (a : ℕ) → UnlessRefused (λ x. (x ≡ over → ⊥) → wait_of b a higher ≡ answered x) (wait_of b a limit)
  unfolding wait_of
  waits a =
      let P : Report Answer → Type 0 = UnlessRefused (λ x. (x ≡ over → ⊥) → wait_of b a higher ≡ answered x) in
      unless-either P (admission_of b) (λ r. tt)
      (λ e. cond_both P (ltb highest_limit limit) tt (λ n. wait-answers b a higher e low ∙ ap answered (walk-higher (read_of b) (limit_of limit) (limit_of higher) above a n)))

  module _ (first last : ℕ) where
    -- where the call at the limit is let in, the one at the higher limit is
    lets-higher : scan_admission b first last limit ≡ Ok (tt {0}) → scan_admission b first last higher ≡ Ok (tt {0})
    lets-higher e = let k = region-in b first last limit e in lets_in b first last higher (record { admitted = k.admitted; ordered = k.ordered; low = low })

    names : (is_start : ℕ → Bool) → scan_admission b first last limit ≡ Ok (tt {0}) → (named_of is_start (answer_from b limit) first last).lowest_over ≡ no_over →
        answered (named_of is_start (answer_from b higher) first last) ≡ answered (named_of is_start (answer_from b limit) first last)
    names is_start e n = ap answered (named-higher is_start (read_of b) (limit_of limit) (limit_of higher) first last above (region-in b first last limit e).ordered n)

    regions : UnlessRefused (λ n. n.lowest_over ≡ no_over → region_of b first last higher ≡ answered n) (region_of b first last limit)
    unfolding region_of
    regions =
        unless-either (UnlessRefused (λ n. n.lowest_over ≡ no_over → region_of b first last higher ≡ answered n)) (scan_admission b first last limit) (λ r. tt)
        (λ e n. unless-in _ _ (lets-higher e) ∙ names every_address e n)

    reached : (clear set : List ℕ) → UnlessRefused (λ n. n.lowest_over ≡ no_over → region_reached_of b first last higher clear set ≡ answered n) (region_reached_of b first last limit clear set)
    unfolding region_reached_of
    reached clear set =
        let P : Report Named → Type 0 = UnlessRefused (λ n. n.lowest_over ≡ no_over → region_reached_of b first last higher clear set ≡ answered n) in
        unless-either P (scan_admission b first last limit) (λ r. tt)
        (λ e. cond_either P (is_wrong_length clear || is_wrong_length set) (λ t. tt) (λ t n. unless-in _ _ (lets-higher e) ∙ cond-false _ _ t ∙ names (contains clear) e n))

pub higher-limits : HigherLimits
higher-limits =
    record {
      waits = λ b a limit higher above low. waits b limit higher above low a;
      regions = λ b first last limit higher above low. regions b limit higher above low first last;
      reached = λ b first last limit higher clear set above low. reached b limit higher above low first last clear set;
    }

-- from what 0 means to 57
as_before : (b : Bus) (a : ℕ) → UnlessRefused (λ x. (x ≡ over → ⊥) → wait_of b a 57 ≡ answered x) (wait_of b a 0)
unfolding limit_of
as_before b a = higher-limits.waits b a 0 57 (lit≤ tt) (lit≤ tt)

pub limits-instance : LimitsInstance
unfolding wrap_add peek_of read_of bad_map admission_of control_instruction status_instruction low_instruction instruction_of is_unspecified decode_at interruptible_entry plain_entry control_entry register_entry branch_cycles branch_entry memory_words store_entry limit_of start_at place_after row_turn turn_at walk_by walk_on walk_from longer_than lower_than longest_by lowest_by wait_of named_of scan_admission region_of
limits-instance = record { passes_at_57 = refl; over_at_0 = refl; same_at_57 = refl; same_at_0 = refl; region_at_57 = refl; region_at_0 = refl; as_before = as_before }
