-- (b) of `specs/Laws`: an assembled line lists as itself.
use Prim.Native.Nat.{ℕ, ◌+◌, ◌%◌, ◌<◌, ◌≤◌}
use mathlib.Core.Path.{◌≡◌, sym, ap, ◌∙◌}
use mathlib.Core.Bool.{Bool, true}
use mathlib.Core.List.{List}
use native.Mathlib.Omega.{arith}
use lib.Dec.{eqb}
use lib.ListN.{length, get_or}
use Rattle.word.specs.Word.{wrap_add}
use Rattle.memory.specs.Bus.{bus_of, read_of}
use Rattle.decode.specs.Fields.{opcode_of}
use Rattle.text.specs.Text.{codes}
use Rattle.listing.specs.declared.entry.RowEntry.{RowEntry}
use Rattle.refusal.specs.Report.{answered}
use Rattle.listing.specs.Disassemble.{entry_at, text_at}
use Rattle.listing.specs.Assemble.{assemble_of}
use Rattle.listing.specs.Laws.{Stand, WordsOf, AssembledListsAsItself}
use Rattle.listing.specs.Inner.Line.{text_of}
use Rattle.listing.specs.Inner.Entry.{row_entry_at}
use Rattle.listing.proofs.Entries.{entry-words}
use Rattle.listing.proofs.EntryWith.{entry_with, cut_with, entry-with, cut-with}
use Rattle.listing.proofs.Spelling.{decle, text_is}
use Rattle.listing.proofs.Trip.{Agree, cut-length, agree-entry}
use Rattle.listing.proofs.Accept.{found}
use Rattle.listing.proofs.RoundTrip.{cut-first}

is-decle : (w a b : ℕ) (double : Bool) → eqb w 4 ≡ true → eqb (a % 4) 3 ≡ true → text_of (entry_with w a b double).line ≡ codes "DECLE $0004"
unfolding entry_with
is-decle w a b double e f = rw (e, f) decle

module _ (text : List ℕ) (double : Bool) (ws : List ℕ) (e : assemble_of text double ≡ answered ws) (other : text ≡ codes "DECLE $0004" → ⊥) where
  abbrev from : WordsOf text double ws
  from = found text double ws e

  abbrev w : ℕ
  w = opcode_of (read_of (bus_of from.memory) 0)

  abbrev a : ℕ
  a = read_of (bus_of from.memory) (wrap_add 0 1)

  abbrev b : ℕ
  b = read_of (bus_of from.memory) (wrap_add 0 2)

  listed : row_entry_at (read_of (bus_of from.memory)) 0 double ≡ entry_with w a b double
  listed = entry-with (read_of (bus_of from.memory)) 0 double

  its-text : text_of (entry_with w a b double).line ≡ text
  its-text =
      ap (λ (x : RowEntry). text_of x.line) (sym listed) ∙ text_is (read_of (bus_of from.memory)) 0 double ∙ from.lists

  its-words : ws ≡ cut_with w a b double
  its-words = sym from.cut ∙ cut-with (read_of (bus_of from.memory)) 0 double

  count : length ws ≡ (entry_with w a b double).words
  count = ap length its-words ∙ (cut-length w a b double (omega arith)).1

  module _ (read : ℕ → ℕ) (at : ℕ) (low : at < 65536) (stand : Stand read at ws) where
    least : 1 ≤ length ws
    least = let l = (cut-length w a b double (omega arith)).0 in let n = count in omega arith

    at-opcode : opcode_of (read at) ≡ w
    unfolding wrap_add
    at-opcode =
        let m : (at + 0) % 65536 ≡ at = omega arith in
        let l = least in
        let s : read at ≡ get_or ws 0 0 = rw m at (stand 0 (omega arith)) in
        let f : get_or ws 0 0 ≡ w = ap (λ (x : List ℕ). get_or x 0 0) its-words ∙ cut-first w a b double (omega arith) in
        let k : w % 1024 ≡ w = omega arith in
        ap opcode_of (s ∙ f) ∙ k

    agree : Agree (entry_with w a b double).words (read (wrap_add at 1)) (read (wrap_add at 2)) (cut_with w a b double)
    agree =
        let n = count in
        record {
          second = λ h. stand 1 (omega arith) ∙ ap (λ (x : List ℕ). get_or x 1 0) its-words;
          third = λ h. stand 2 (omega arith) ∙ ap (λ (x : List ℕ). get_or x 2 0) its-words;
        }

    there : row_entry_at read at double ≡ entry_with w a b double
    there =
        entry-with read at double
        ∙ ap (λ (x : ℕ). entry_with x (read (wrap_add at 1)) (read (wrap_add at 2)) double) at-opcode
        ∙ agree-entry w a b double (omega arith) (read (wrap_add at 1)) (read (wrap_add at 2))
        (λ p q. other (sym its-text ∙ is-decle w a b double p q)) agree

    lists : (text_at read at double ≡ text) × ((entry_at read at double).words ≡ length ws)
    lists =
        (sym (text_is read at double) ∙ ap (λ (x : RowEntry). text_of x.line) there ∙ its-text, entry-words read at double ∙ ap (λ (x : RowEntry). x.words) there ∙ sym count)

pub assembled-lists-as-itself : AssembledListsAsItself
assembled-lists-as-itself text double ws e other read at low stand = lists text double ws e other read at low stand
