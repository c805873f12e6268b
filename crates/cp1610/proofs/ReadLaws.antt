-- What a caller reads from a call is document 01's answer, call by call.
use Prim.Native.Nat.{ℕ, ◌≤◌}
use mathlib.Core.Path.{◌≡◌, refl, sym, subst}
use mathlib.Core.Bool.{Bool, true}
use mathlib.Core.List.{List, [], ◌∷◌}
use native.Mathlib.Omega.{arith}
use borrow.Author.Tests.{le-ltb}
use lib.Dec.{ltb, lit≤, lit<}
use lib.ListN.{length, drop}
use lib.Seq.{take_at}
use Rattle.word.proofs.Choice.{cond_both}
use Rattle.memory.specs.Map.{listed_in}
use Rattle.memory.specs.Bus.{Bus, read_of, admission_of}
use Rattle.memory.proofs.BusLaws.{unless-both}
use Rattle.refusal.specs.Report.{Report, answered}
use Rattle.cpu.specs.Machine.{Machine, reset_machine}
use Rattle.cpu.specs.Step.{Outcome, step_of}
use Rattle.run.specs.Run.{RunOutcome, run_of}
use Rattle.meter.specs.Answer.{Answer, wait, over, halts, unspecified, Longest, no_wait, longest, Lowest, no_over, over_at, Named}
use Rattle.listing.specs.Disassemble.{text_at, Disassembly, listed_disassembly, disassemble_of}
use Rattle.pair.specs.Write.{PairWriting, write_pair_of}
use Rattle.bitset.specs.Bits.{LowestOrNone, none, lowest_at}
use Rattle.reach.specs.Summary.{SetSummary}
use Rattle.cp1610.specs.Words.{state_length, is_set, unpacked, lines_of}
use Rattle.cp1610.specs.MapWords.{range_at, ranges_to, board_of, kinds_to, is_map, on_map}
use Rattle.cp1610.specs.Answers.{success_word, run_length, run_words}
use Rattle.cp1610.specs.Called.{items, Called, called, call_by}
use Rattle.cp1610.specs.Call.{reset_call, step_call, run_call}
use Rattle.cp1610.specs.MeterCall.{walked_word, wait_call, region_length, region_words, named_call, region_call, region_reached_call}
use Rattle.cp1610.specs.ListingCall.{line_words, assemble_call, list_length, list_words, list_call}
use Rattle.cp1610.specs.ImageCall.{counted_call, load_call, write_call}
use Rattle.cp1610.specs.PairCall.{load_pair_call, pair_length, pair_words, write_pair_call}
use Rattle.cp1610.specs.ReachCall.{reach_length, reach_words, reach_call}
use Rattle.cp1610.specs.Calls.{
  cp1610_reset,
  cp1610_step,
  cp1610_run,
  cp1610_wait,
  cp1610_region,
  cp1610_list,
  cp1610_assemble,
  cp1610_load,
  cp1610_write,
  cp1610_load_pair,
  cp1610_write_pair,
  cp1610_reach,
  cp1610_region_reached,
}
use Rattle.cp1610.specs.Read.{
  items_in,
  count_in,
  read_report,
  read_machine,
  read_step,
  read_run,
  read_walk,
  read_named,
  read_listing,
  read_assembled,
  read_pair_writing,
  read_summary,
}
use Rattle.cp1610.specs.Laws.{ReadsTheAnswer, HasText, ReadsTheText, HeaderMap, ShortestAreWellLent}
use Rattle.cp1610.proofs.AnswerLaws.{set-flag, unpacks-packed, success-high, success-kind, success-value, success-count}
use Rattle.cp1610.proofs.RuleLaws.{Told, by-told}
use Rattle.cp1610.proofs.ReportLaws.{
  told-step,
  told-run,
  Fits,
  told-wait,
  told-region,
  told-listing,
  told-assembly,
  told-loading,
  told-writing,
  told-pair-loading,
  told-pair-writing,
  told-reach,
  told-region-reached,
}

-- reset
read-reset : (state : List ℕ) →
    state_length ≤ length state →
    read_report read_machine (call_by (reset_call state)) ≡ answered reset_machine
unfolding reset_call reset_machine
read-reset state h =
    by-told Unit (λ (m : Machine). length m.registers ≡ 8) (reset_call state) (λ r c. read_report read_machine c ≡ r)
    (le-ltb (length state) state_length h) refl
    (λ n low k. rw low)
    (λ m e. rw (success-high 1 0 (lit≤ tt), unpacks-packed state m e))

-- step
pub read-step : (state map : List ℕ) (mem : Bus) (lines : ℕ) →
    state_length ≤ length state →
    is_map map ≡ true →
    read_step (call_by (step_call state map mem lines)) ≡ step_of (unpacked state) mem (lines_of lines)
unfolding step_call unpacked
read-step state map mem lines h whole =
    let o : Outcome = step_of (unpacked state) mem (lines_of lines) in
    by-told _ _ (step_call state map mem lines)
    (λ r c. read_step c ≡ record { machine = o.machine; answer = r; bus = o.bus })
    (rw (le-ltb (length state) state_length h, whole)) (told-step (unpacked state) mem (lines_of lines) refl)
    (λ n low k. rw (low, k.0, k.1))
    (λ x k.
    rw (
      success-high x.kind x.cycles k.0,
      success-kind x.kind x.cycles k.1,
      success-value x.kind x.cycles k.1,
      unpacks-packed state o.machine k.2,
    ))

-- run
read-run : (state map : List ℕ) (mem : Bus) (lines budget : ℕ) (out : List ℕ) →
    state_length ≤ length state →
    run_length ≤ length out →
    is_map map ≡ true →
    read_run (call_by (run_call state map mem lines budget out)) ≡ run_of (unpacked state) mem (lines_of lines) budget
unfolding run_call unpacked run_words
read-run state map mem lines budget out h k whole =
    let o : RunOutcome = run_of (unpacked state) mem (lines_of lines) budget in
    by-told _ _ (run_call state map mem lines budget out)
    (λ r c. read_run c ≡ record { machine = o.machine; answer = r; bus = o.bus })
    (rw (le-ltb (length state) state_length h, le-ltb (length out) run_length k, whole))
    (told-run (unpacked state) mem (lines_of lines) budget refl)
    (λ n low t. rw (low, t.0, t.1))
    (λ x e. rw (success-high 1 0 (lit≤ tt), unpacks-packed state o.machine e))

-- wait
read-walked : (a : Answer) → Fits a → read_report read_walk (called (walked_word a) []) ≡ answered a
read-walked (wait n) h = rw (success-high 1 n (lit≤ tt), success-kind 1 n h, success-value 1 n h)
read-walked over h = rw (success-high 2 0 (lit≤ tt), success-kind 2 0 (lit< tt))
read-walked halts h = rw (success-high 3 0 (lit≤ tt), success-kind 3 0 (lit< tt))
read-walked (unspecified a) h = rw (success-high 4 a (lit≤ tt), success-kind 4 a h, success-value 4 a h)

-- region
read_named-back : (out : List ℕ) (l : Longest) (o : Lowest) →
    read_named (called (success_word 1 0) (items (region_words out l o) ∷ [])) ≡ record { longest_wait = l; lowest_over = o }
unfolding region_words
read_named-back out no_wait no_over = refl
read_named-back out no_wait (over_at start) = refl
read_named-back out (longest n start) no_over = refl
read_named-back out (longest n start) (over_at over-start) = refl

-- the meter for a region, in either mode
read-region : (map out : List ℕ) (report : Report Named) → Told Unit (λ (x : Named). Unit) report → region_length ≤ length out → is_map map ≡ true →
    read_report read_named (call_by (named_call map out report)) ≡ report
read-region map out report told h whole =
    by-told Unit (λ (x : Named). Unit) (named_call map out report) (λ r c. read_report read_named c ≡ r) (rw (le-ltb (length out) region_length h, whole)) told
    (λ n low k. rw low)
    (λ x k. rw (success-high 1 0 (lit≤ tt), read_named-back out x.longest_wait x.lowest_over))

-- list
read-listing : (map : List ℕ) (mem : Bus) (address d : ℕ) (text out : List ℕ) →
    list_length ≤ length out →
    is_map map ≡ true →
    read_listing (call_by (list_call map mem address d text out)) ≡ disassemble_of mem address (is_set d) text
unfolding list_call list_words
read-listing map mem address d text out h whole =
    let x : Disassembly = disassemble_of mem address (is_set d) text in
    by-told _ _ (list_call map mem address d text out) (λ r c. read_listing c ≡ record { answer = r; room = x.room })
    (rw (le-ltb (length out) list_length h, whole)) (told-listing mem address (is_set d) text)
    (λ n low k. rw (low, k))
    (λ l k. rw (success-high 1 0 (lit≤ tt), set-flag l.double))

listed-text : (b : Bus) (at : ℕ) (double : Bool) (room : List ℕ) →
    HasText (text_at (read_of b) at double) (disassemble_of b at double room)
unfolding disassemble_of listed_disassembly
listed-text b at double room =
    let line = text_at (read_of b) at double in
    unless-both (HasText line) (admission_of b) (λ r. tt)
    (cond_both (HasText line) (ltb (length room) 16) tt (take_at line (drop (length line) room) (length line) refl))

pub reads-the-text : ReadsTheText
reads-the-text mem map address d text out h =
    subst (HasText (text_at (read_of (on_map map mem)) address (is_set d))) (sym (read-listing map (on_map map mem) address d text out h.0 h.1))
    (listed-text (on_map map mem) address (is_set d) text)

-- load and write: a count, and what is left of the one buffer
read-counted : {O : Type 0} (outcome : Report ℕ → List ℕ → O) (before after : List ℕ) (most : ℕ) (report : Report ℕ) →
    Told (after ≡ before) (λ n. n ≤ most) report →
    let c : Called = call_by (counted_call before report after) in
    outcome (read_report count_in c) (items_in c 0) ≡ outcome report after
read-counted outcome before after most report told =
    by-told _ _ (counted_call before report after)
    (λ r c. outcome (read_report count_in c) (items_in c 0) ≡ outcome r after)
    refl told
    (λ n low k. rw (low, k))
    (λ n k. rw (success-high 1 n (lit≤ tt), success-count n))

-- write a pair
read-pair : (mem : List ℕ) (first last : ℕ) (bin cfg out : List ℕ) →
    pair_length ≤ length out →
    read_pair_writing (call_by (write_pair_call mem first last bin cfg out)) ≡ write_pair_of mem first last bin cfg
unfolding write_pair_call pair_words
read-pair mem first last bin cfg out h =
    let w : PairWriting = write_pair_of mem first last bin cfg in
    by-told _ _ (write_pair_call mem first last bin cfg out) (λ r c. read_pair_writing c ≡ record { answer = r; bin = w.bin; cfg = w.cfg })
    (le-ltb (length out) pair_length h) (told-pair-writing mem first last bin cfg)
    (λ n low k. rw (low, k.0, k.1))
    (λ n k. rw (success-high 1 0 (lit≤ tt)))

-- build the set
read-summary : (clear set out : List ℕ) (n m : ℕ) (l : LowestOrNone) →
    let s : SetSummary = record { addresses = n; writers = m; lowest_writer = l } in
    read_summary (called (success_word 1 0) (items clear ∷ items set ∷ items (reach_words out s) ∷ [])) ≡ s
unfolding reach_words
read-summary clear set out n m none = refl
read-summary clear set out n m (lowest_at a) = refl

pub reads-the-answer : ReadsTheAnswer
unfolding wait_call region_call assemble_call load_call write_call load_pair_call reach_call region_reached_call
reads-the-answer (cp1610_reset state) h = read-reset state h
reads-the-answer (cp1610_step state mem map lines) h = read-step state map (on_map map mem) lines h.0 h.1
reads-the-answer (cp1610_run state mem map lines budget out) h = read-run state map (on_map map mem) lines budget out h.0 h.1 h.2
reads-the-answer (cp1610_wait mem map address limit) h =
    by-told Unit Fits (wait_call map (on_map map mem) address limit) (λ r c. read_report read_walk c ≡ r) (rw h.0) (told-wait (on_map map mem) address limit h.1)
    (λ n low k. rw low)
    read-walked
reads-the-answer (cp1610_region mem map first last limit out) h = read-region map out _ (told-region (on_map map mem) first last limit) h.0 h.1
reads-the-answer (cp1610_list mem map address d text out) h = read-listing map (on_map map mem) address d text out h.0 h.1
reads-the-answer (cp1610_assemble line d words) h =
    by-told Unit (λ (ws : List ℕ). length ws ≤ line_words) (assemble_call line d words) (λ r c. read_report read_assembled c ≡ r)
    (le-ltb (length words) line_words h) (told-assembly line (is_set d))
    (λ n low k. rw low)
    (λ ws k.
    rw (
      success-high 1 (length ws) (lit≤ tt),
      success-value 1 (length ws) (omega arith),
      take_at ws (drop (length ws) words) (length ws) refl,
    ))
reads-the-answer (cp1610_load board mem file) h =
    read-counted (λ r m. record { answer = r; memory = m }) _ _ _ _ (told-loading board mem file refl)
reads-the-answer (cp1610_write board mem first last room) h =
    read-counted (λ r left. record { answer = r; room = left }) _ _ _ _ (told-writing board mem first last room refl)
reads-the-answer (cp1610_load_pair mem bin cfg) h =
    read-counted (λ r m. record { answer = r; memory = m }) _ _ _ _ (told-pair-loading mem bin cfg refl)
reads-the-answer (cp1610_write_pair mem first last bin cfg out) h = read-pair mem first last bin cfg out h
reads-the-answer (cp1610_reach mem map entries clear set out clear' set') h =
    by-told Unit (λ (x : SetSummary). Unit) (reach_call map (on_map map mem) entries clear set out clear' set') (λ r c. read_report read_summary c ≡ r)
    (rw (le-ltb (length out) reach_length h.0, h.1)) (told-reach (on_map map mem) entries clear set clear' set')
    (λ n low k. rw low)
    (λ x k. rw (success-high 1 0 (lit≤ tt), read-summary clear' set' out x.addresses x.writers x.lowest_writer))
reads-the-answer (cp1610_region_reached mem map first last limit clear set out) h =
    read-region map out _ (told-region-reached (on_map map mem) first last limit clear set) h.0 h.1

pub header-map : HeaderMap
unfolding is_map kinds_to board_of ranges_to range_at listed_in
header-map = record { map_is = refl; all-ram = record { one = refl; whole = refl } }

no-ranges : is_map [] ≡ true
unfolding is_map kinds_to listed_in
no-ranges = refl

pub shortest-are-well-lent : ShortestAreWellLent
shortest-are-well-lent =
    record {
      reset = lit≤ tt;
      step = λ mem lines. (lit≤ tt, no-ranges);
      run = λ mem lines budget. (lit≤ tt, lit≤ tt, no-ranges);
      wait = λ mem limit. (no-ranges, lit< tt);
      region = λ mem first last limit. (lit≤ tt, no-ranges);
      list = λ mem address d text. (lit≤ tt, no-ranges);
      assemble = λ line d. lit≤ tt;
      write_pair = λ mem first last bin cfg. lit≤ tt;
      reach = λ mem entries clear set clear' set'. (lit≤ tt, no-ranges);
      region_reached = λ mem first last limit clear set. (lit≤ tt, no-ranges);
    }
