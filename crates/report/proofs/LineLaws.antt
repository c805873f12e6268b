-- How long the lines are, how many there are, and that each instruction has a word or more.
use Prim.Native.Nat.{ℕ, zero, suc, ◌+◌, ◌-◌, ◌*◌, ◌≤◌, ◌<◌}
use mathlib.Core.Path.{◌≡◌, refl, sym, ap}
use mathlib.Core.Bool.{Bool, false, cond}
use mathlib.Core.List.{List, [], ◌∷◌, ◌++◌, append_assoc}
use native.Mathlib.Omega.{arith}
use borrow.Author.Tests.{lt-ltb, le-ltb}
use lib.Dec.{ltb, lit≤}
use lib.ListN.{length, length-append}
use Rattle.word.proofs.Choice.{cond_both, cond-true, cond-false}
use Rattle.memory.specs.Bus.{Bus, read_of}
use Rattle.records.specs.Records.{Record}
use Rattle.image.specs.Format.{record_bytes}
use Rattle.listing.specs.Disassemble.{entry_at, text_at}
use Rattle.listing.proofs.Bounds.{lines-bounded}
use Rattle.meter.specs.Answer.{Named}
use Rattle.meter.specs.Meter.{answer_from, named_of, every_address}
use Rattle.text.specs.Text.{hex_of}
use Rattle.report.specs.declared.Program.{Program}
use Rattle.report.specs.declared.Program.TheVariants.{ListImage, MeterImage}
use Rattle.report.specs.Text.{space, line_text, lines_text}
use Rattle.report.specs.Instructions.{instruction_line, lines_from, instruction_lines}
use Rattle.report.specs.Regions.{metering_limit, wait_text, over_text, named_line, region_line}
use Rattle.report.proofs.LengthLaws.{hex_length, wait_short, over_short}
use Rattle.report.specs.Program.{record_lines, records_lines, end_number}
use Rattle.report.specs.Laws.{EveryInstructionListed}

-- every instruction has a word
pub words-some : (read : ℕ → ℕ) (at : ℕ) (double : Bool) → 1 ≤ (entry_at read at double).words
words-some read at double = (lines-bounded read at double).words_least

-- the pieces of a line, as they are put
pub instruction-pieces : (read : ℕ → ℕ) (at : ℕ) (double : Bool)
    → (hex_of at ++ (space ∷ [])) ++ (text_at read at double ++ line_text []) ≡ line_text (instruction_line read at double)
unfolding instruction_line
instruction-pieces read at double = simp append_assoc

pub named-pieces : (first last : ℕ) (named : Named)
    → (hex_of first ++ (space ∷ [])) ++ ((hex_of last ++ (space ∷ [])) ++ (wait_text named.longest_wait ++ ((space ∷ []) ++ (over_text named.lowest_over ++ line_text []))))
    ≡ line_text (named_line first last named)
unfolding named_line
named-pieces first last named = simp append_assoc

pub text_short : (read : ℕ → ℕ) (at : ℕ) (double : Bool) → length (text_at read at double) ≤ 14
text_short read at double = (lines-bounded read at double).text_most

pub line-short : (read : ℕ → ℕ) (at : ℕ) (double : Bool) → length (line_text (instruction_line read at double)) ≤ 20
unfolding instruction_line
line-short read at double =
    simp (length-append, hex_length at) (omega (arith, text_short read at double))

-- the lines from an address on, by the rule of their definition
pub lines-on : (n : ℕ) (read : ℕ → ℕ) (end at : ℕ) (double : Bool) → 0 < n → at < end → lines_from n read end at double
    ≡ instruction_line read at double ∷ lines_from (n - 1) read end (at + (entry_at read at double).words) (entry_at read at double).double
lines-on zero read end at double z h = absurd (omega arith)
lines-on (suc n) read end at double z h = let e : suc n - 1 ≡ n = omega arith in rw e (cond-true _ _ (lt-ltb at end h))

pub lines_end : (n : ℕ) (read : ℕ → ℕ) (end at : ℕ) (double : Bool) → end ≤ at → lines_from n read end at double ≡ []
lines_end zero read end at double h = refl
lines_end (suc n) read end at double h = cond-false _ _ (le-ltb at end h)

pub every-instruction-listed : EveryInstructionListed
every-instruction-listed zero zero read end at double h g = refl
every-instruction-listed zero (suc k) read end at double h g = sym (lines_end (suc k) read end at double (omega arith))
every-instruction-listed (suc n) zero read end at double h g = lines_end (suc n) read end at double (omega arith)
every-instruction-listed (suc n) (suc k) read end at double h g =
    let e = entry_at read at double in
    let w = words-some read at double in
    ap (λ (rest : List (List ℕ)). cond (ltb at end) (instruction_line read at double ∷ rest) [])
    (every-instruction-listed n k read end (at + e.words) e.double (omega arith) (omega arith))

lines-size : (n : ℕ) (read : ℕ → ℕ) (end at : ℕ) (double : Bool) → length (lines_text (lines_from n read end at double)) ≤ n * 20
lines-size zero read end at double = lit≤ tt
lines-size (suc n) read end at double =
    let e = entry_at read at double in
    let rest = lines_from n read end (at + e.words) e.double in
    let l = length-append (line_text (instruction_line read at double)) (lines_text rest) in
    cond_both (λ ls. length (lines_text ls) ≤ suc n * 20) (ltb at end)
    (omega (arith, line-short read at double, lines-size n read end (at + e.words) e.double))
    (omega arith)

lines-few : (n : ℕ) (read : ℕ → ℕ) (end at : ℕ) (double : Bool) → length (lines_from n read end at double) ≤ n
lines-few zero read end at double = lit≤ tt
lines-few (suc n) read end at double =
    let e = entry_at read at double in
    cond_both (λ ls. length ls ≤ suc n) (ltb at end)
    (omega (arith, lines-few n read end (at + e.words) e.double))
    (omega arith)

named-short : (first last : ℕ) (named : Named) → length (line_text (named_line first last named)) ≤ 38
unfolding named_line
named-short first last named =
    simp (length-append, hex_length) (omega (arith, wait_short named.longest_wait, over_short named.lowest_over))

-- ten bytes of text suffice for each byte of a record in the file
pub record-size : (program : Program) (b : Bus) (a c : ℕ) → 0 < c → length (lines_text (record_lines program b a c)) ≤ record_bytes c * 10
unfolding instruction_lines region_line
record-size ListImage b a c h = omega (arith, lines-size c (read_of b) (a + c) a false)
record-size MeterImage b a c h =
    let line = region_line b a (a + (c - 1)) in
    omega (arith, length-append (line_text line) [], named-short a (a + (c - 1)) (named_of every_address (answer_from b metering_limit) a (a + (c - 1))))

pub record-few : (program : Program) (b : Bus) (a c : ℕ) → 0 < c → length (record_lines program b a c) ≤ c
unfolding instruction_lines
record-few ListImage b a c h = lines-few c (read_of b) (a + c) a false
record-few MeterImage b a c h = h

-- the metering has one line for each record
metering-counts : (b : Bus) (rs : List Record) → length rs ≡ length (records_lines MeterImage b rs)
metering-counts b [] = refl
metering-counts b (r ∷ rs) = ap suc (metering-counts b rs)

-- so that the number behind END is that of the lines in both
pub end-number : (program : Program) (b : Bus) (rs : List Record) → end_number program (records_lines program b rs) rs ≡ length (records_lines program b rs)
end-number ListImage b rs = refl
end-number MeterImage b rs = metering-counts b rs
