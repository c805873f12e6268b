-- Pieces put one behind the other are one piece.
use Prim.Native.Nat.{ℕ, ◌+◌, ◌-◌, ◌≤◌}
use mathlib.Core.Path.{◌≡◌, refl, sym, ap, ◌∙◌}
use mathlib.Core.List.{List, [], ◌∷◌, ◌++◌, append_assoc, append-nil}
use native.Mathlib.Omega.{arith}
use borrow.Rule.Slice.PartMut.{put_mid}
use lib.ListN.{length, length-append, take, drop}
use lib.Seq.{sets, length-sets, sets-eq, length-take-le, drop-drop, take-append_seam}
use Rattle.word.proofs.SetsLaws.{sets-split}
use Rattle.refusal.specs.Report.{is_refused}
use Rattle.memory.specs.Map.{all_ram}
use Rattle.memory.specs.Bus.{bus_on}
use Rattle.text.specs.Text.{line_feed}
use Rattle.report.specs.declared.page.Page.{Page}
use Rattle.report.specs.Text.{line_text, lines_text}
use Rattle.report.specs.declared.Program.{Program}
use Rattle.report.specs.declared.Printed.{Printed}
use Rattle.report.specs.Reading.{reading_of}
use Rattle.report.specs.Program.{report_text, Printing, printing_of, printing, Within}
use Rattle.report.specs.Inner.Page.{Puts, Stays, Writes, Adds}

pub puts_none : (room : List ℕ) (at : ℕ) → at ≤ length room → Puts room at [] room at
puts_none room at h = record { within = omega arith; place = omega arith; room = refl }

pub puts-length : {before bytes after : List ℕ} {at to : ℕ} → Puts before at bytes after to → length after ≡ length before
puts-length {before} {bytes} {after} {at} p = ap length p.room ∙ length-sets before at bytes

pub puts_then : {r₀ r₁ r₂ xs ys : List ℕ} {a b c : ℕ} → Puts r₀ a xs r₁ b → Puts r₁ b ys r₂ c → Puts r₀ a (xs ++ ys) r₂ c
puts_then {r₀} {r₁} {r₂} {xs} {ys} {a} {b} {c} p q =
    record {
      within = omega (arith, p.place, q.within, puts-length p, length-append xs ys);
      place = omega (arith, p.place, q.place, length-append xs ys);
      room = q.room ∙ rw (p.room, p.place) (sym (sets-split r₀ a xs ys));
    }

-- the same piece by another name
pub puts-as : {r₀ r₁ xs ys : List ℕ} {a b : ℕ} → xs ≡ ys → Puts r₀ a xs r₁ b → Puts r₀ a ys r₁ b
puts-as e p = rw e at p

-- a page is written to piece by piece
pub stays_then : {p q r : Page} → Stays p q → Stays q r → Stays p r
stays_then a b = record { same_room = b.same_room ∙ a.same_room; size = b.size ∙ a.size }

pub writes_then : {p q r : Page} {xs ys : List ℕ} → Writes p xs q → Writes q ys r → Writes p (xs ++ ys) r
writes_then a b =
    record { stays = stays_then a.stays b.stays; puts = puts_then a.puts b.puts; lines = b.lines ∙ a.lines }

-- the same piece by another name
pub writes_as : {p q : Page} {xs ys : List ℕ} → xs ≡ ys → Writes p xs q → Writes p ys q
writes_as e w = rw e at w

-- bytes written over a part of a room are stored one behind the other
pub put_mid-sets : (at : ℕ) (bytes room : List ℕ) → at + length bytes ≤ length room → put_mid at (at + length bytes - at) room bytes ≡ sets room at bytes
put_mid-sets at bytes room h =
    let e : at + length bytes - at ≡ length bytes = omega arith in
    rw (e, sets-eq bytes room at h, drop-drop (length bytes) at room, append_assoc)

lines-append : (ls ms : List (List ℕ)) → lines_text (ls ++ ms) ≡ lines_text ls ++ lines_text ms
lines-append [] ms = refl
lines-append (l ∷ ls) ms = rw (lines-append ls ms) (sym (append_assoc (line_text l) (lines_text ls) (lines_text ms)))

length_both : (ls ms : List (List ℕ)) → length (ls ++ ms) ≡ length ls + length ms
length_both [] ms = omega arith
length_both (l ∷ ls) ms = omega (arith, length_both ls ms)

pub adds_none : (page : Page) → page.at ≤ length page.room.now → Adds page [] page
adds_none page h =
    record { stays = record { same_room = refl; size = refl }; puts = puts_none page.room.now page.at h; count = omega arith }

pub adds_then : {p q r : Page} {ls ms : List (List ℕ)} → Adds p ls q → Adds q ms r → Adds p (ls ++ ms) r
adds_then {ls = ls} {ms = ms} a b =
    record {
      stays = stays_then a.stays b.stays;
      puts = puts-as (sym (lines-append ls ms)) (puts_then a.puts b.puts);
      count = omega (arith, a.count, b.count, length_both ls ms);
    }

-- a line that is written and counted
pub adds-line : {p q : Page} {line : List ℕ} → Writes p (line_text line) q → Adds p (line ∷ []) (record q { lines = q.lines + 1 })
adds-line {line = line} w =
    record { stays = record { same_room = w.stays.same_room; size = w.stays.size }; puts = puts-as (sym (append-nil (line_text line))) w.puts; count = omega (arith, w.lines) }

-- a line has a byte or more
lines-shorter : (ls : List (List ℕ)) → length ls ≤ length (lines_text ls)
lines-shorter [] = omega arith
lines-shorter (l ∷ ls) =
    omega (arith, lines-shorter ls, length-append (line_text l) (lines_text ls), length-append l (line_feed ∷ []))

pub adds-few : {p q : Page} {ls : List (List ℕ)} → Adds p ls q → p.lines ≤ p.at → q.lines ≤ q.at
adds-few {ls = ls} a h = omega (arith, lines-shorter ls, a.count, a.puts.place)

-- a text put at the front of the room is printed, and lies there
module _ {before after : List ℕ} (program : Program) (input : List ℕ) {printed : Printed}
    (p : Puts before 0 (report_text (bus_on all_ram) program input) after printed.size) (r : printed.refused ≡ is_refused (reading_of input)) where
  pub prints-text : printing printed after ≡ printing_of program input before
  unfolding printing_of
  prints-text =
      let text = report_text (bus_on all_ram) program input in
      let e : printed.size ≡ length text = omega (arith, p.place) in
      let z : 0 + length text ≡ length text = omega arith in
      rw (e, r, p.room, sets-eq text before 0 p.within, z)

  pub prints-within : Within printed.size after
  prints-within =
      let h : printed.size ≤ length after = omega (arith, p.place, p.within, puts-length p) in
      (h, sym (length-take-le printed.size after h))

-- what is printed says the text, and whether the input is refused
module _ (before : List ℕ) {after : List ℕ} (program : Program) (input : List ℕ) {printed : Printed} (e : printing printed after ≡ printing_of program input before) where
  pub printed-refused : printed.refused ≡ is_refused (reading_of input)
  unfolding printing_of
  printed-refused = ap (λ (p : Printing). p.refusal) e

  pub printed-text : take printed.size after ≡ report_text (bus_on all_ram) program input
  unfolding printing_of
  printed-text =
      let text = report_text (bus_on all_ram) program input in
      let s : printed.size ≡ length text = ap (λ (p : Printing). p.size) e in
      let r : after ≡ text ++ drop (length text) before = ap (λ (p : Printing). p.room) e in
      rw (s, r) (take-append_seam text (drop (length text) before))
