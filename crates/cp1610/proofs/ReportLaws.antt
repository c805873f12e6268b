-- What the definitions behind the calls report: each refusal is one of document 01's and left what it was given, and each number
-- that is answered has room in a result.
use Prim.Native.Nat.{ℕ, zero, suc, ◌+◌, ◌≤◌, ◌<◌}
use mathlib.Core.Path.{◌≡◌, refl, sym, subst}
use mathlib.Core.Bool.{Bool, true, ◌||◌}
use mathlib.Core.List.{List, [], ◌∷◌}
use mathlib.Core.Logic.{◌⊎◌, ⊎_elim}
use native.Mathlib.Omega.{arith}
use borrow.Author.Tests.{ltb-false}
use lib.Dec.{eqb, ltb}
use lib.ListN.{length, length-take}
use Rattle.refusal.specs.declared.Refusal.{Refusal}
use Rattle.refusal.specs.declared.Refusal.TheVariants.{LimitTooHigh, NotAListingLine, TextRoomTooSmall, TooManyEntries, WrongSetLength}
use Rattle.refusal.specs.Refusals.{refusal_number}
use Rattle.refusal.specs.Report.{Report, refused, answered}
use Rattle.refusal.proofs.ReportLaws.{no_answer}
use Rattle.word.specs.Word.{wrap_add}
use Rattle.word.proofs.WordLaws.{add_low}
use Rattle.word.proofs.Choice.{cond_both, cond_either}
use Rattle.memory.specs.Bus.{Bus, bus_of, read_of, admission_of}
use Rattle.memory.proofs.BusLaws.{unless-both}
use Rattle.std.specs.Prelude.{Option, Some, None}
use Rattle.decode.specs.declared.Instr.{Instr}
use Rattle.decode.specs.Fields.{opcode_of}
use Rattle.decode.specs.Decode.{decode_at}
use Rattle.decode.specs.Rows.{row_of}
use Rattle.cpu.specs.declared.Lines.{Lines}
use Rattle.cpu.specs.Machine.{Machine}
use Rattle.cpu.specs.Answer.{StepDone, cycles_of}
use Rattle.cpu.specs.Step.{Action, Outcome, refused_step, granted, interrupted, executed_from, executed, step_of}
use Rattle.cpu.proofs.ActionLaws.{by-action, refused-keeps-all, every-cost, cycles-most}
use Rattle.cpu.proofs.SoundLaws.{keeps-eight}
use Rattle.run.specs.Run.{RunOutcome, refused_run, finish, run_of}
use Rattle.run.proofs.RunLaws.{by-turns, by-run}
use Rattle.meter.specs.declared.walk.Place.{Place}
use Rattle.meter.specs.Answer.{Answer, wait, over, halts, unspecified}
use Rattle.meter.specs.Walk.{
  highest_limit,
  limit_of,
  start_at,
  place_after,
  Turn,
  goes_on,
  row_turn,
  decoded_turn,
  turn_at,
  after_turn,
  walk_by,
  walk_on,
  walk_from,
}
use Rattle.meter.specs.Meter.{wait_of, scan_admission, region_of, region_reached_of}
use Rattle.listing.specs.Disassemble.{entry_at, text_at, Disassembly, listed_disassembly, disassemble_of}
use Rattle.text.specs.Text.{same_text}
use Rattle.listing.specs.Cut.{cut_words, cut_at}
use Rattle.listing.specs.Assemble.{held_to, or_else, any_below, assemble_of}
use Rattle.listing.proofs.Bounds.{lines-bounded}
use Rattle.records.specs.Loading.{Loading, refuse_load}
use Rattle.image.specs.Format.{record_limit, id_head}
use Rattle.image.specs.Read.{head_of}
use Rattle.image.specs.Load.{load_of}
use Rattle.image.specs.Write.{Writing, refuse_write, write_of}
use Rattle.image.proofs.OutcomeLaws.{load-refuses-or-answers, write-refuses-or-answers}
use Rattle.pair.specs.Load.{load_pair_of}
use Rattle.pair.specs.Answer.{PairLengths}
use Rattle.pair.specs.Write.{PairWriting, write_pair_of}
use Rattle.pair.proofs.OutcomeLaws.{pair-refuses-or-loads, pair-refuses-or-writes, answers-lengths}
use Rattle.reach.specs.Summary.{SetSummary}
use Rattle.bitset.specs.Bits.{is_wrong_length}
use Rattle.reach.specs.Reach.{most_entries, reach_of}
use Rattle.cp1610.specs.Answers.{is_refusal}
use Rattle.cp1610.specs.ListingCall.{line_words}
use Rattle.cp1610.proofs.AnswerLaws.{number-low}
use Rattle.cp1610.proofs.RuleLaws.{Told}

-- a step: its kind and its cycles fit their halves of a result, and it leaves eight registers
abbrev pub ToldStep : Machine → Bus → Outcome → Report StepDone → Type 0
ToldStep m b o =
    Told ((o.machine ≡ m) × (o.bus ≡ b))
    (λ (x : StepDone). (1 ≤ x.kind) × (x.cycles < 0x100000000) × (length o.machine.registers ≡ 8))

-- its refusal has one of document 01's numbers
step-number : (m : Machine) (b : Bus) (l : Lines) (n : ℕ) → (step_of m b l).answer ≡ refused n → is_refusal n ≡ true
unfolding step_of refused_step granted interrupted executed_from executed
step-number m b l n =
    by-action (λ (a : Action). a.answer ≡ refused n → is_refusal n ≡ true) m b l
    (λ r e. let q : refusal_number r ≡ n = cc in subst (λ (x : ℕ). is_refusal x ≡ true) q (number-low r))
    (λ e. no_answer (sym e))
    (λ e. no_answer (sym e))
    (λ i e. no_answer (sym e))

pub told-step : (m : Machine) (b : Bus) (l : Lines) →
    length m.registers ≡ 8 →
    let o : Outcome = step_of m b l in
    ToldStep m b o o.answer
told-step m b l eight = go (step_of m b l).answer refl
  where
    go : (a : Report StepDone) → (step_of m b l).answer ≡ a → ToldStep m b (step_of m b l) a
    go (refused n) e = (step-number m b l n e, refused-keeps-all m b l n e)
    go (answered x) e =
        let costs = (every-cost m b l x e).kinds in
        let most = subst (λ (a : Report StepDone). cycles_of a ≤ 12) e (cycles-most m b l) in
        (omega (arith, costs), omega (arith, most), keeps-eight m b l eight)

-- a run leaves eight registers
abbrev pub ToldRun : Machine → Bus → RunOutcome → Type 0
ToldRun m b o = Told ((o.machine ≡ m) × (o.bus ≡ b)) (λ x. length o.machine.registers ≡ 8) o.answer

pub told-run : (m : Machine) (b : Bus) (l : Lines) (budget : ℕ) → length m.registers ≡ 8 → ToldRun m b (run_of m b l budget)
unfolding refused_run finish
told-run m b l budget eight =
    by-run m b l budget (ToldRun m b) (λ r. (number-low r, (refl, refl)))
    (λ s.
    by-turns l budget (λ n c steps cycles o. length n.registers ≡ 8 → ToldRun m b o)
    (λ n c steps cycles t e h. h)
    (λ n c steps cycles o k r h. r (keeps-eight n c l h))
    m b 0 0 s eight)

-- a walk: the sum is within the limit, and the address has 16 bits
abbrev pub Fits : Answer → Type 0
Fits (wait cycles) = cycles < 0x100000000
Fits over = Unit
Fits halts = Unit
Fits (unspecified address) = address < 0x100000000

walk-fits : (n : ℕ) (read : ℕ → ℕ) (limit : ℕ) (p : Place) →
    limit < 0x100000000 →
    p.address < 65536 →
    Fits (walk_by n read limit p)
unfolding walk_by turn_at row_turn place_after
walk-fits zero read limit p low here = tt
walk-fits (suc n) read limit p low here =
    go (λ q there. walk-fits n read limit q low there) (decode_at read p.address p.double)
  where
    Comes : Turn → Type 0
    Comes t = Fits (after_turn (λ a. a) (walk_by n read limit) t)

    go : ((q : Place) → q.address < 65536 → Comes (goes_on q)) → (x : Option Instr) → Comes (decoded_turn limit p x)
    go on None = omega arith
    go on (Some i) =
        let row = row_of i p.double in
        cond_either Comes (ltb limit (p.sum + row.cycles)) (λ e. tt)
        (λ e.
        cond_both Comes row.halts tt
        (cond_both Comes row.interruptible (omega (arith, ltb-false limit (p.sum + row.cycles) e))
        (on (place_after p row) (add_low p.address row.words))))

pub told-wait : (b : Bus) (address limit : ℕ) → address < 65536 → Told Unit Fits (wait_of b address limit)
unfolding wait_of walk_from walk_on start_at limit_of
told-wait b address limit here =
    unless-both (Told Unit Fits) (admission_of b) (λ r. (number-low r, tt))
    (cond_either (Told Unit Fits) (ltb highest_limit limit) (λ e. (number-low LimitTooHigh, tt))
    (λ e.
    walk-fits _ (read_of b) (limit_of limit) _
    (cond_both (λ n. n < 0x100000000) (eqb limit 0) (omega arith) (omega (arith, ltb-false highest_limit limit e)))
    here))

-- a region's report has no number of its own
pub told-region : (b : Bus) (first last limit : ℕ) → Told Unit (λ x. Unit) (region_of b first last limit)
unfolding region_of
told-region b first last limit = unless-both (Told Unit (λ x. Unit)) (scan_admission b first last limit) (λ r. (number-low r, tt)) tt

pub told-region-reached : (b : Bus) (first last limit : ℕ) (clear set : List ℕ) → Told Unit (λ x. Unit) (region_reached_of b first last limit clear set)
unfolding region_reached_of
told-region-reached b first last limit clear set =
    unless-both (Told Unit (λ x. Unit)) (scan_admission b first last limit) (λ r. (number-low r, tt))
    (cond_both (Told Unit (λ x. Unit)) (is_wrong_length clear || is_wrong_length set) (number-low WrongSetLength, tt) tt)

-- a line's text is short
abbrev pub ToldListing : List ℕ → Disassembly → Type 0
ToldListing room x = Told (x.room ≡ room) (λ l. l.length ≤ 14) x.answer

pub told-listing : (b : Bus) (at : ℕ) (double : Bool) (room : List ℕ) → ToldListing room (disassemble_of b at double room)
unfolding disassemble_of listed_disassembly
told-listing b at double room =
    unless-both (ToldListing room) (admission_of b) (λ r. (number-low r, refl))
    (cond_both (ToldListing room) (ltb (length room) 16) (number-low TextRoomTooSmall, refl)
    (lines-bounded (read_of b) at double).text_most)

-- a line has one, two or three words
abbrev pub ToldAssembly : Report (List ℕ) → Type 0
ToldAssembly = Told Unit (λ ws. length ws ≤ line_words)

held-told : (text : List ℕ) (double : Bool) (w a b : ℕ) → ToldAssembly (held_to text double w a b)
unfolding held_to cut_at
held-told text double w a b =
    let read : ℕ → ℕ = read_of (bus_of (w ∷ a ∷ b ∷ [])) in
    let n = (entry_at read 0 double).words in
    let words = cut_words n (opcode_of (read 0)) (read (wrap_add 0 1)) (read (wrap_add 0 2)) in
    cond_both ToldAssembly (same_text (text_at read 0 double) text)
    (omega (arith, length-take n words, (lines-bounded read 0 double).words_most))
    (number-low NotAListingLine, tt)

else-told : (r other : Report (List ℕ)) → ToldAssembly r → ToldAssembly other → ToldAssembly (or_else r other)
else-told (refused n) other t u = u
else-told (answered ws) other t u = t

any_told : (n : ℕ) (f : ℕ → Report (List ℕ)) → ((k : ℕ) → ToldAssembly (f k)) → ToldAssembly (any_below n f)
unfolding any_below
any_told zero f t = (number-low NotAListingLine, tt)
any_told (suc n) f t = else-told (f n) (any_below n f) (t n) (any_told n f t)

pub told-assembly : (line : List ℕ) (double : Bool) → ToldAssembly (assemble_of line double)
unfolding assemble_of
told-assembly line double =
    any_told _ _ (λ w. any_told _ _ (λ a. any_told _ _ (λ b. held-told line double w a b)))

-- image files: a refusal leaves what was lent, and the number answered is no more than the bytes that were lent
counted-told : {O : Type 0} (refuse : Refusal → O) (answer : O → Report ℕ) (left : O → List ℕ)
    (before : List ℕ) (most : ℕ) {found o : O} →
    found ≡ o →
    ((r : Refusal) → (answer (refuse r) ≡ refused (refusal_number r)) × (left (refuse r) ≡ before)) →
    ((r : Refusal) × (o ≡ refuse r)) ⊎ ((n : ℕ) × ((answer o ≡ answered n) × (n ≤ most))) →
    Told (left found ≡ before) (λ n. n ≤ most) (answer found)
counted-told {O} refuse answer left before most {found} {o} e h d =
    subst (λ (x : O). Counted x (answer x)) (sym e)
    (⊎_elim (λ k. subst (λ (x : O). Counted x (answer x)) (sym k.1) (refused-told k.0))
    (λ k. subst (Counted o) (sym k.1.0) k.1.1) d)
  where
    Counted : O → Report ℕ → Type 0
    Counted x = Told (left x ≡ before) (λ n. n ≤ most)

    refused-told : (r : Refusal) → Counted (refuse r) (answer (refuse r))
    refused-told r = subst (Counted (refuse r)) (sym (h r).0) (number-low r, (h r).1)

abbrev pub ToldLoading : List ℕ → List ℕ → Loading → Type 0
ToldLoading m file l = Told (l.memory ≡ m) (λ n. n ≤ length file) l.answer

pub told-loading : (board : ℕ) (m file : List ℕ) {l : Loading} → l ≡ load_of board m file → ToldLoading m file l
told-loading board m file e =
    counted-told (refuse_load m) (λ l. l.answer) (λ l. l.memory) m (length file) e
    (λ r. (refl, refl))
    (load-refuses-or-answers head_of record_limit board m file)

abbrev pub ToldWriting : List ℕ → Writing → Type 0
ToldWriting room w = Told (w.room ≡ room) (λ n. n ≤ length room) w.answer

pub told-writing : (board : ℕ) (m : List ℕ) (first last : ℕ) (room : List ℕ) {w : Writing} →
    w ≡ write_of board m first last room →
    ToldWriting room w
told-writing board m first last room e =
    counted-told (refuse_write room) (λ w. w.answer) (λ w. w.room) room (length room) e
    (λ r. (refl, refl))
    (write-refuses-or-answers (id_head board) record_limit m first last room)

-- a pair that was read: no more lines than bytes of the text
pub told-pair-loading : (m bin cfg : List ℕ) {l : Loading} → l ≡ load_pair_of m bin cfg → ToldLoading m cfg l
told-pair-loading m bin cfg e =
    counted-told (refuse_load m) (λ l. l.answer) (λ l. l.memory) m (length cfg) e (λ r. (refl, refl)) (pair-refuses-or-loads m bin cfg)

-- a pair that was written: a refusal left both rooms, and the lengths fit `out`
abbrev pub ToldPair : List ℕ → List ℕ → PairWriting → Type 0
ToldPair bin cfg w = Told ((w.bin ≡ bin) × (w.cfg ≡ cfg)) (λ (n : PairLengths). (n.bin < 0x100000000) × (n.cfg < 0x100000000)) w.answer

pub told-pair-writing : (mem : List ℕ) (first last : ℕ) (bin cfg : List ℕ) → ToldPair bin cfg (write_pair_of mem first last bin cfg)
told-pair-writing mem first last bin cfg =
    ⊎_elim (λ p. rw p.1 (number-low p.0, (refl, refl)))
    (λ p.
    let s = answers-lengths mem first last bin cfg p.0 p.1.0 in
    rw p.1.0 (omega (arith, s.bin, s.few), omega (arith, s.cfg)))
    (pair-refuses-or-writes mem first last bin cfg)

-- a summary has no number that must fit a result
pub told-reach : (b : Bus) (entries clear set clear' set' : List ℕ) → Told Unit (λ (x : SetSummary). Unit) (reach_of b entries clear set clear' set')
unfolding reach_of
told-reach b entries clear set clear' set' =
    let P : Report SetSummary → Type 0 = Told Unit (λ (x : SetSummary). Unit) in
    unless-both P (admission_of b) (λ r. (number-low r, tt))
    (cond_both P (ltb most_entries (length entries)) (number-low TooManyEntries, tt) (cond_both P (is_wrong_length clear || is_wrong_length set) (number-low WrongSetLength, tt) tt))
