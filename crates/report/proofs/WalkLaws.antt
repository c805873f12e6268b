-- The two loops: over the instructions of a record, and over the records of a file. Each invariant is a record, with what a turn does to it.
use Prim.Native.Nat.{ℕ, ◌+◌, ◌-◌, ◌*◌, ◌<◌, ◌≤◌}
use mathlib.Core.Path.{◌≡◌, refl, sym, ap, ◌∙◌}
use mathlib.Core.Bool.{Bool, false}
use mathlib.Core.List.{List, [], ◌∷◌, ◌++◌, append_assoc, append-nil}
use native.Mathlib.Omega.{arith}
use Rattle.std.proofs.Common.{Option, None, Some}
use lib.ListN.{length, take, drop, length-drop, length-append}
use Rattle.word.proofs.SetsLaws.{rest}
use Rattle.memory.specs.Bus.{Bus, read_of}
use Rattle.image.specs.declared.FirstRecord.{FirstRecord}
use Rattle.records.specs.Records.{Record}
use Rattle.image.specs.Format.{record_limit, head_bytes, record_bytes, body_bytes}
use Rattle.image.specs.Read.{part_of, first_of, whole, body_of}
use Rattle.image.specs.Answer.{first_reported}
use Rattle.image.proofs.ReadLaws.{record-length}
use Rattle.image.proofs.FirstLaws.{Behind, first-behind, none-behind}
use Rattle.report.specs.declared.Program.{Program}
use Rattle.report.specs.declared.page.Page.{Page}
use Rattle.listing.specs.declared.Listed.{Listed as ListedLine}
use Rattle.report.specs.Reading.{board_words, input_limit, records_of}
use Rattle.report.specs.Text.{line_text}
use Rattle.report.specs.Instructions.{instruction_line, lines_from, instruction_lines}
use Rattle.report.specs.Program.{record_lines, records_lines}
use Rattle.report.specs.Inner.Page.{HasRoom, lines_room, Adds, Ready, Fills, Steps}
use Rattle.report.proofs.PageLaws.{adds_none, adds_then, adds-few}
use Rattle.report.proofs.LineLaws.{words-some, line-short, lines-on, lines_end, record-size, record-few}

-- The instructions of a record before the address `next` are listed.
pub record Listed (b : Bus) (address count : ℕ) (start page : Page) (next : ℕ) (double : Bool) : Type 0 where
  pub done : List (List ℕ)
  pub left : ℕ
  pub enough : address + count ≤ next + left
  pub space : page.at + (address + count - next) * 20 ≤ length start.room.now
  pub few : page.lines ≤ page.at
  pub adds : Adds start done page
  pub same : done ++ lines_from left (read_of b) (address + count) next double ≡ instruction_lines b address count

pub listed-none : (b : Bus) (address count : ℕ) (page : Page) → HasRoom page (count * 20) → Listed b address count page page address false
unfolding instruction_lines
listed-none b address count page h =
    let e : address + count - address ≡ count = omega arith in
    record {
      done = [];
      left = count;
      enough = omega arith;
      space = rw e h.1;
      few = h.0;
      adds = adds_none page (omega arith);
      same = refl;
    }

module _ {b : Bus} {address count : ℕ} {start page : Page} {next : ℕ} {double : Bool} (k : Listed b address count start page next double) where
  pub listed-on : {after : Page} {line : ListedLine} → next < address + count → Steps (read_of b) next double page after line
      → Listed b address count start after (next + line.words) line.double
  listed-on {after} {line} h s =
      let read = read_of b in
      let w = words-some read next double in
      let z = line-short read next double in
      let t = length-append (line_text (instruction_line read next double)) [] in
      let p = s.adds.puts.place in
      let ew = s.words in
      record {
        done = k.done ++ (instruction_line read next double ∷ []);
        left = k.left - 1;
        enough = omega (arith, k.enough);
        space = omega (arith, k.space);
        few = adds-few s.adds k.few;
        adds = adds_then k.adds s.adds;
        same =
            append_assoc k.done _ _
            ∙ rw (s.words, s.under, ← lines-on k.left read (address + count) next double (omega (arith, k.enough)) h) k.same;
      }

  pub listed-end : address + count ≤ next → Adds start (instruction_lines b address count) page
  listed-end h =
      let e : k.done ≡ instruction_lines b address count =
      sym (append-nil k.done) ∙ rw (lines_end k.left (read_of b) (address + count) next double h) at k.same
      in
      rw e at k.adds

-- The records of a file before its bytes `rest` are printed.
pub record Walked (program : Program) (b : Bus) (file : List ℕ) (start page : Page) (rest : List ℕ) : Type 0 where
  pub done : List (List ℕ)
  pub left : List Record
  pub stated : ℕ
  pub reads : body_of record_limit board_words rest ≡ whole left stated
  pub size : page.at + length rest * 10 ≤ start.at + lines_room
  pub few : page.lines * 2 + length rest ≤ start.lines * 2 + input_limit
  pub under : page.lines ≤ page.at
  pub adds : Adds start done page
  pub same : done ++ records_lines program b left ≡ records_lines program b (records_of file)

pub walked_none : (program : Program) (b : Bus) (file : List ℕ) (page : Page) → HasRoom page lines_room → Ready file → Walked program b file page page (body_bytes file)
unfolding records_of
walked_none program b file page h r =
    let w = r.whole_file in
    let l = length-drop head_bytes file in
    record {
      done = [];
      left = w.records;
      stated = w.stated;
      reads = w.body;
      size = omega (arith, r.short);
      few = omega (arith, r.short);
      under = h.0;
      adds = adds_none page (omega arith);
      same = rw w.body;
    }

-- the code reads the next record off the front of the rest
module _ {program : Program} {b : Bus} {file : List ℕ} {start page : Page} {rest : List ℕ} (found : Option FirstRecord)
    (k : Walked program b file start page rest) (e : first_reported found ≡ first_of (part_of record_limit board_words rest)) where
  pub walked-record : {r : FirstRecord} → found ≡ Some r → Behind record_limit board_words rest r.address r.count k.left k.stated
  walked-record f = first-behind record_limit board_words rest k.reads (ap first_reported (sym f) ∙ e)

  pub walked_on : {r : FirstRecord} {after : Page} → found ≡ Some r → Adds page (record_lines program b r.address r.count) after
      → Walked program b file start after (drop (record_bytes r.count) rest)
  walked_on {r} {after} f s =
      let a = r.address in
      let c = r.count in
      let v = walked-record f in
      let l = length-drop (record_bytes c) rest in
      let w = v.sound.complete in
      let z = record-size program b a c v.sound.some in
      let n = record-few program b a c v.sound.some in
      let p = s.puts.place in
      let m = s.count in
      record {
        done = k.done ++ record_lines program b a c;
        left = v.records;
        stated = k.stated;
        reads = v.reads;
        size = omega (arith, k.size);
        few = omega (arith, k.few);
        under = adds-few s k.under;
        adds = adds_then k.adds s;
        same = append_assoc k.done _ _ ∙ rw (v.all, record-length a c rest) at k.same;
      }

  pub walked_end : found ≡ None → Fills start (records_lines program b (records_of file)) page
  walked_end f =
      let z : k.left ≡ [] = none-behind record_limit board_words rest k.reads (ap first_reported (sym f) ∙ e) in
      let d : k.done ≡ records_lines program b (records_of file) = sym (append-nil k.done) ∙ rw z at k.same in
      record {
        adds = rw d at k.adds;
        size = omega (arith, k.size);
        few = omega (arith, k.few);
      }

-- what is left of a file behind a part of it is shorter
pub rest-shorter : (l : List ℕ) (n : ℕ) → 0 < n → n ≤ length l → length (take (length l - n) (drop n l)) < length l
rest-shorter l n z h = rw (rest l n) (omega (arith, length-drop n l))
