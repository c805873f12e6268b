-- The ends of a call, as the functions come to them: what they were told leaves what the call's rule says.
use Prim.Native.Nat.{ℕ, ◌≤◌, ◌<◌}
use mathlib.Core.Path.{◌≡◌, refl, ap, sym, subst}
use mathlib.Core.Bool.{Bool}
use mathlib.Core.List.{List, [], ◌∷◌}
use native.Mathlib.Omega.{arith}
use borrow.Author.Tests.{le-ltb}
use lib.ListN.{length}
use Rattle.std.specs.Prelude.{Result, Ok, Err}
use Rattle.refusal.specs.declared.Refusal.{Refusal}
use Rattle.refusal.specs.Report.{Report, refused, answered, UnlessRefused}
use Rattle.memory.specs.declared.map.Board.{Board}
use Rattle.memory.specs.Bus.{Bus, bus_on}
use Rattle.cpu.specs.declared.Stepped.{Stepped}
use Rattle.cpu.specs.declared.Lines.{Lines}
use Rattle.cpu.specs.Machine.{Machine, reset_machine}
use Rattle.cpu.specs.Answer.{step_report, cycles_of}
use Rattle.cpu.specs.Step.{Outcome, step_of, outcome}
use Rattle.cpu.proofs.ActionLaws.{cycles-most}
use Rattle.run.specs.declared.Ran.{Ran}
use Rattle.run.specs.Run.{run_report, run_outcome, run_of}
use Rattle.records.specs.Loading.{load_reported}
use Rattle.image.specs.Answer.{write_reported}
use Rattle.listing.specs.declared.Listed.{Listed}
use Rattle.listing.specs.Answer.{ListedLine, listing_reported}
use Rattle.listing.specs.Disassemble.{disassemble_of, disassembly}
use Rattle.pair.specs.declared.Lengths.{Lengths}
use Rattle.pair.specs.Answer.{PairLengths, pair_reported}
use Rattle.pair.specs.Write.{write_pair_of, wrote_pair}
use Rattle.cp1610.specs.Words.{state_length, unpacked, packed, lines_of}
use Rattle.cp1610.specs.Answers.{counted_word, success_word}
use Rattle.cp1610.specs.Called.{items, called, call_by}
use Rattle.cp1610.specs.Call.{reset_call}
use Rattle.cp1610.specs.ImageCall.{counted_call}
use Rattle.cp1610.proofs.RuleLaws.{Told, kept_by, held_by}
use Rattle.cp1610.proofs.ReportLaws.{
  ToldStep,
  told-step,
  ToldRun,
  told-run,
  ToldListing,
  told-listing,
  ToldPair,
  told-pair-writing,
}

-- the reset machine, packed into a state that is long enough
pub reset-ends : (words : List ℕ) (m : Machine) →
    state_length ≤ length words →
    m ≡ reset_machine →
    called (success_word 1 0) (items (packed words m) ∷ []) ≡ call_by (reset_call words)
unfolding reset_call
reset-ends words m long e = rw (e, le-ltb (length words) state_length long)

-- a step's cycles fit the low half of a result
pub step-cycles-low : (board : Board) (x : Stepped) (n : List ℕ) (m : Machine) (b : Bus) (l : Lines) →
    outcome board x n ≡ step_of m b l →
    cycles_of (step_report x.answer) < 0x100000000
step-cycles-low board x n m b l e = omega (arith, ap (λ (o : Outcome). cycles_of o.answer) e, cycles-most m b l)

-- a refused step left the memory
pub step-kept : (words : List ℕ) (b : Bus) (lines : ℕ) (board : Board) (x : Stepped) (after : List ℕ) (r : Refusal) →
    outcome board x after ≡ step_of (unpacked words) b (lines_of lines) →
    x.answer ≡ Err r →
    bus_on board after ≡ b
unfolding unpacked
step-kept words b lines board x after r e p =
    let told = told-step (unpacked words) b (lines_of lines) refl in
    (kept_by _ _ (step_report x.answer) (subst (λ (o : Outcome). ToldStep (unpacked words) b o o.answer) (sym e) told) (ap step_report p)).1

-- a refused run left the memory
pub run-kept : (words : List ℕ) (b : Bus) (lines budget : ℕ) (board : Board) (x : Ran) (after : List ℕ) (r : Refusal) →
    run_outcome board x after ≡ run_of (unpacked words) b (lines_of lines) budget →
    x.answer ≡ Err r →
    bus_on board after ≡ b
unfolding unpacked
run-kept words b lines budget board x after r e p =
    let told = told-run (unpacked words) b (lines_of lines) budget refl in
    (kept_by _ _ (run_report x.answer) (subst (ToldRun (unpacked words) b) (sym e) told) (ap run_report p)).1

-- a refused listing left the room, and a line's text is short
module _ (b : Bus) (at : ℕ) (double : Bool) (room after : List ℕ) (x : Result Listed Refusal)
    (e : disassembly x after ≡ disassemble_of b at double room) where
  listing-told : ToldListing room (disassembly x after)
  listing-told = subst (ToldListing room) (sym e) (told-listing b at double room)

  pub listing-kept : {r : Refusal} → x ≡ Err r → after ≡ room
  listing-kept p = kept_by (after ≡ room) (λ (l : ListedLine). l.length ≤ 14) (listing_reported x) listing-told (ap listing_reported p)

  pub listing-short : {l : Listed} → x ≡ Ok l → l.length ≤ 14
  listing-short p = held_by (after ≡ room) (λ (l : ListedLine). l.length ≤ 14) (listing_reported x) listing-told (ap listing_reported p)

-- a writer reports its count as a loader does
pub counts-alike : (r : Result ℕ Refusal) → load_reported r ≡ write_reported r
counts-alike (Ok n) = refl
counts-alike (Err r) = refl

-- a loader's word is the whole result, and its count has room there
module _ (before after : List ℕ) (most : ℕ) (report : Report ℕ) (told : Told (after ≡ before) (λ n. n ≤ most) report) where
  pub load-ends : called (counted_word report) (items after ∷ []) ≡ call_by (counted_call before report after)
  load-ends = go report told
    where
      go : (r : Report ℕ) → Told (after ≡ before) (λ n. n ≤ most) r → called (counted_word r) (items after ∷ []) ≡ call_by (counted_call before r after)
      go (refused n) t = rw t.1
      go (answered n) t = refl

  pub load_low : most < 0x8000000000000000 → UnlessRefused (λ n. n < 0x8000000000000000) report
  load_low h = go report told
    where
      go : (r : Report ℕ) → Told (after ≡ before) (λ n. n ≤ most) r → UnlessRefused (λ n. n < 0x8000000000000000) r
      go (refused n) t = tt
      go (answered n) t = omega arith

-- a refused writing of a pair left both rooms, and the lengths of another fit `out`
module _ (m : List ℕ) (first last : ℕ) (bin cfg b c : List ℕ) (x : Result Lengths Refusal) (e : wrote_pair x b c ≡ write_pair_of m first last bin cfg) where
  pair-told : ToldPair bin cfg (wrote_pair x b c)
  pair-told = subst (ToldPair bin cfg) (sym e) (told-pair-writing m first last bin cfg)

  pub pair-kept : {r : Refusal} → x ≡ Err r → (b ≡ bin) × (c ≡ cfg)
  pair-kept p = kept_by ((b ≡ bin) × (c ≡ cfg)) (λ (n : PairLengths). (n.bin < 0x100000000) × (n.cfg < 0x100000000)) (pair_reported x) pair-told (ap pair_reported p)

  pub pair_fits : {n : Lengths} → x ≡ Ok n → (n.bin < 0x100000000) × (n.cfg < 0x100000000)
  pair_fits p = held_by ((b ≡ bin) × (c ≡ cfg)) (λ (n : PairLengths). (n.bin < 0x100000000) × (n.cfg < 0x100000000)) (pair_reported x) pair-told (ap pair_reported p)
