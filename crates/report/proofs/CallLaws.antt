-- What the disassembler and the meter answer here, on the all-RAM board: neither refuses, as the memory is short enough, the room large enough,
-- and the region in its order.
use Prim.Native.Nat.{ℕ, ◌≤◌}
use Rattle.std.proofs.Common.{Result, Ok, Err}
use Rattle.std.specs.Prelude.{IsOk}
use mathlib.Core.Path.{◌≡◌, refl, sym, ap, ◌∙◌}
use mathlib.Core.Bool.{Bool}
use mathlib.Core.List.{List, ◌++◌}
use borrow.Author.Tests.{le-ltb}
use lib.ListN.{length, take, drop}
use lib.Seq.{take-append_seam}
use Rattle.word.proofs.Choice.{cond-false}
use Rattle.refusal.specs.declared.Refusal.{Refusal}
use Rattle.refusal.specs.Report.{answered}
use Rattle.refusal.proofs.ReportLaws.{no_answer, same_answer}
use Rattle.memory.specs.declared.map.Board.{Board}
use Rattle.memory.specs.Map.{all_ram}
use Rattle.memory.specs.Bus.{bus_on, read_of, admission_of}
use Rattle.memory.proofs.BusLaws.{lets_in, unless-in}
use Rattle.memory.proofs.AllRamLaws.{all-ram-laws}
use Rattle.listing.specs.declared.Listed.{Listed}
use Rattle.listing.specs.Answer.{ListedLine as Told, listed_line, listing_reported}
use Rattle.listing.specs.Disassemble.{Disassembly, entry_at, text_at, listed_disassembly, disassemble_of, disassembly}
use Rattle.meter.specs.declared.Findings.{Findings}
use Rattle.meter.specs.Answer.{Named, named_in, region_report}
use Rattle.meter.specs.Meter.{answer_from, named_of, every_address, region_of}
use Rattle.meter.proofs.RegionLaws.{region-answers}
use Rattle.report.proofs.LineLaws.{text_short}

-- an all-RAM map is let in with every memory that is short enough
all-ram-in : (m : List ℕ) → length m ≤ 65536 → admission_of (bus_on all_ram m) ≡ Ok (tt {0})
all-ram-in m h = all-ram-laws.admits all_ram m all-ram-laws.made ∙ lets_in m h

-- a line that was listed; the code takes it from the front of the room
pub record ListedLine (read : ℕ → ℕ) (at : ℕ) (double : Bool) (room : List ℕ) (l : Listed) : Type 0 where
  pub words_are : l.words ≡ (entry_at read at double).words
  pub next_is : l.double ≡ (entry_at read at double).double
  pub text_is : take l.length room ≡ text_at read at double
  pub short : l.length ≤ 14
  pub text_short : length (take l.length room) ≤ 14

is_listed : (x : Result Listed Refusal) {l : Told} → listing_reported x ≡ answered l → IsOk x
is_listed (Ok l) e = refl
is_listed (Err r) e = no_answer e

is_metered : (x : Result Findings Refusal) {n : Named} → region_report x ≡ answered n → IsOk x
is_metered (Ok f) e = refl
is_metered (Err r) e = no_answer e

module _ {board : Board} (given : board ≡ all_ram) (m : List ℕ) (at : ℕ) (double : Bool) (room : List ℕ) {after : List ℕ} (x : Result Listed Refusal)
    (e : disassembly x after ≡ disassemble_of (bus_on board m) at double room) (h : length m ≤ 65536) (k : 16 ≤ length room) where
  listing-is : disassembly x after ≡ listed_disassembly room (entry_at (read_of (bus_on all_ram m)) at double)
  unfolding disassemble_of
  listing-is =
      e ∙ ap (λ (b : Board). disassemble_of (bus_on b m) at double room) given ∙ unless-in _ _ (all-ram-in m h) ∙ cond-false _ _ (le-ltb (length room) 16 k)

  pub surely-listed : IsOk x
  unfolding listed_disassembly
  surely-listed = is_listed x (ap (λ (d : Disassembly). d.answer) listing-is)

  pub listed-line : {l : Listed} → x ≡ Ok l → ListedLine (read_of (bus_on all_ram m)) at double after l
  unfolding listed_disassembly
  listed-line {l} f =
      let text = text_at (read_of (bus_on all_ram m)) at double in
      let entry = entry_at (read_of (bus_on all_ram m)) at double in
      let answer : listed_line l.length l.words l.double ≡ listed_line (length text) entry.words entry.double =
      ap listing_reported (sym f) ∙ ap (λ (d : Disassembly). d.answer) listing-is
      in
      let line : after ≡ text ++ drop (length text) room = ap (λ (d : Disassembly). d.room) listing-is in
      let told = same_answer answer in
      let s : l.length ≡ length text = ap (λ (y : Told). y.length) told in
      let t : take l.length after ≡ text = rw (s, line) (take-append_seam text (drop (length text) room)) in
      let k : length text ≤ 14 = text_short (read_of (bus_on all_ram m)) at double in
      record { words_are = ap (λ (y : Told). y.words) told; next_is = ap (λ (y : Told). y.double) told; text_is = t; short = rw s k; text_short = rw t k }

module _ {board : Board} (given : board ≡ all_ram) (m : List ℕ) (first last limit : ℕ) (x : Result Findings Refusal)
    (e : region_report x ≡ region_of (bus_on board m) first last limit) (h : length m ≤ 65536) (k : first ≤ last) (l : limit ≤ 4096) where
  region-is : region_report x ≡ answered (named_of every_address (answer_from (bus_on all_ram m) limit) first last)
  region-is =
      e
      ∙ ap (λ (b : Board). region_of (bus_on b m) first last limit) given
      ∙ region-answers (bus_on all_ram m) first last limit (all-ram-in m h) k l

  pub surely-metered : IsOk x
  surely-metered = is_metered x region-is

  pub metered-named : {f : Findings} → x ≡ Ok f → named_in f ≡ named_of every_address (answer_from (bus_on all_ram m) limit) first last
  metered-named g = same_answer (ap region_report (sym g) ∙ region-is)
