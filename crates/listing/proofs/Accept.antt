-- Which texts the assembler takes, and the words that they stand for; and that the code finds them by the row that it guesses.
use Prim.Native.Nat.{ℕ, zero, suc, ◌+◌, ◌-◌, ◌*◌, ◌/◌, ◌%◌, ◌<◌}
use mathlib.Core.Path.{◌≡◌, refl, sym, ap, ap₂, ◌∙◌, subst}
use mathlib.Core.Bool.{Bool, true, false, cond}
use mathlib.Core.List.{List, [], ◌∷◌}
use native.Mathlib.Omega.{arith}
use lib.Dec.{leb, ltb, eqb, lit<, lit≤}
use lib.ListN.{length, get_or}
use Rattle.word.specs.Word.{wrap_add}
use Rattle.word.proofs.Choice.{cond_both, cond_either}
use Rattle.memory.specs.Bus.{bus_of, read_of}
use Rattle.memory.specs.Laws.{BusWords}
use Rattle.memory.proofs.Laws.{fits-words}
use Rattle.memory.proofs.BusLaws.{bus-laws, read-within}
use Rattle.decode.specs.Fields.{opcode_of}
use Rattle.decode.specs.Decode.{decode_words}
use Rattle.text.specs.Text.{same_text}
use Rattle.text.proofs.Tests.{clash, same_true, same-eq}
use Rattle.listing.specs.declared.line.Line.{Line}
use Rattle.listing.specs.declared.entry.RowEntry.{RowEntry}
use Rattle.refusal.specs.Report.{Report, answered}
use Rattle.refusal.proofs.ReportLaws.{no_answer, same_answer}
use Rattle.listing.specs.Disassemble.{text_at}
use Rattle.listing.specs.Cut.{cut_at}
use Rattle.listing.specs.Assemble.{no_line, held_to, assemble_of}
use Rattle.listing.specs.Laws.{WordsOf}
use Rattle.listing.specs.Inner.Rows.{template_of, base_of}
use Rattle.listing.specs.Inner.Line.{text_of}
use Rattle.listing.specs.Inner.Guess.{Guesses}
use Rattle.listing.specs.Inner.Entry.{row_entry_of, row_entry_at, row_text_at}
use Rattle.listing.specs.Inner.Encode.{line_read, word_count, jump_word, jump_words, plain_words, opcode_in, encoded, first_words, memory_as}
use Rattle.listing.proofs.Table.{base-low}
use Rattle.listing.proofs.Lines.{text-length}
use Rattle.listing.proofs.Entries.{entry_in, entry-of-words}
use Rattle.listing.proofs.Back.{read-row, read-16}
use Rattle.listing.proofs.EntryWith.{entry_with, cut_with, entry-with, cut-with, Trip}
use Rattle.listing.proofs.Trip.{trip}
use Rattle.listing.proofs.Guessing.{own_row}
use Rattle.listing.proofs.Spelling.{text_is}
use Rattle.listing.proofs.Search.{Only, any-only, any_some, any_none, any_place}

-- three words read as a memory
module _ (w p q : ℕ) where
  abbrev three : ℕ → ℕ
  three = read_of (bus_of (w ∷ p ∷ q ∷ []))

  first : three 0 ≡ w
  first = read-within (w ∷ p ∷ q ∷ []) 0 (lit< tt)

  second : three (wrap_add 0 1) ≡ p
  unfolding wrap_add
  second = read-within (w ∷ p ∷ q ∷ []) 1 (lit< tt)

  third : three (wrap_add 0 2) ≡ q
  unfolding wrap_add
  third = read-within (w ∷ p ∷ q ∷ []) 2 (lit< tt)

  module _ (double : Bool) (h : w < 1024) where
    opcode : opcode_of (three 0) ≡ w
    opcode = let m : w % 1024 ≡ w = omega arith in ap opcode_of first ∙ m

    three-entry : row_entry_at three 0 double ≡ entry_with w p q double
    three-entry = entry-with three 0 double ∙ (λ i. entry_with (opcode i) (second i) (third i) double)

    three-cut : cut_at three 0 double ≡ cut_with w p q double
    three-cut = cut-with three 0 double ∙ (λ i. cut_with (opcode i) (second i) (third i) double)

-- the entry at an address, from its own line
module _ (read : ℕ → ℕ) (at : ℕ) (double : Bool) (word : read (wrap_add at 1) < 65536) where
  abbrev line : Line
  line = (row_entry_at read at double).line

  abbrev there : Trip (opcode_of (read at)) (read (wrap_add at 1)) (read (wrap_add at 2)) double
  there = trip (opcode_of (read at)) (read (wrap_add at 1)) (read (wrap_add at 2)) double (omega arith) word

  self-read : line_read line.row (text_of line) ≡ line
  self-read = subst (λ (e : RowEntry). line_read e.line.row (text_of e.line) ≡ e.line) (sym (entry-with read at double)) there.back

  self-words : encoded (line_read line.row (text_of line)) double ≡ opcode_of (read at) ∷ there.p ∷ there.q ∷ []
  self-words =
      ap (λ (l : Line). encoded l double) self-read
      ∙ ap (λ (e : RowEntry). encoded e.line double) (entry-with read at double)
      ∙ there.words

  pub self-entry : row_entry_at (memory_as line.row (text_of line) double) 0 double ≡ row_entry_at read at double
  self-entry =
      ap (λ (ws : List ℕ). row_entry_at (read_of (bus_of ws)) 0 double) self-words
      ∙ three-entry (opcode_of (read at)) there.p there.q double (omega arith)
      ∙ there.entry
      ∙ sym (entry-with read at double)

  pub self-cut : cut_at (memory_as line.row (text_of line) double) 0 double ≡ cut_at read at double
  self-cut =
      ap (λ (ws : List ℕ). cut_at (read_of (bus_of ws)) 0 double) self-words
      ∙ three-cut (opcode_of (read at)) there.p there.q double (omega arith)
      ∙ there.again
      ∙ sym (cut-with read at double)

  pub self-first : first_words (encoded (line_read line.row (text_of line)) double) (row_entry_at read at double).words ≡ cut_at read at double
  self-first =
      ap (λ (ws : List ℕ). first_words ws (row_entry_at read at double).words) self-words
      ∙ ap (λ (e : RowEntry). first_words (opcode_of (read at) ∷ there.p ∷ there.q ∷ []) e.words) (entry-with read at double)
      ∙ there.first
      ∙ sym (cut-with read at double)

pub three-fit : (x y z : ℕ) → x < 65536 → y < 65536 → z < 65536 → BusWords (bus_of (x ∷ y ∷ z ∷ []))
three-fit x y z h k l = bus-laws.words (x ∷ y ∷ z ∷ []) (fits-words (x ∷ y ∷ z ∷ []) go)
  where
    go : (a : ℕ) → get_or (x ∷ y ∷ z ∷ []) a 0 < 65536
    go zero = h
    go (suc zero) = k
    go (suc (suc zero)) = l
    go (suc (suc (suc a))) = lit< tt

-- the words of a line are three, and list by themselves as they do in a memory of their own
encoded-three : (l : Line) (double : Bool) → length (encoded l double) ≡ 3
unfolding encoded jump_words plain_words
encoded-three l double =
    let Three : List ℕ → Type 0 = λ ws. length ws ≡ 3 in
    cond_both Three (leb 79 l.row) refl (cond_both Three (eqb (word_count (opcode_in l) double) 3) refl refl)

pub own-entry : (l : Line) (double : Bool)
    → row_entry_of (decode_words (get_or (encoded l double) 0 0) (get_or (encoded l double) 1 0)) double (get_or (encoded l double) 1 0) (get_or (encoded l double) 2 0)
    ≡ row_entry_at (read_of (bus_of (encoded l double))) 0 double
unfolding wrap_add
own-entry l double =
    let ws : List ℕ = encoded l double in
    let n : length ws ≡ 3 = encoded-three l double in
    rw (← read-within ws 0 (omega arith), ← read-within ws 1 (omega arith), ← read-within ws 2 (omega arith)) (entry-of-words (read_of (bus_of ws)) 0 double)

-- the words of a line are 16-bit words
words_fit : (l : Line) (double : Bool) → l.row < 86 → l.operand < 65536 → BusWords (bus_of (encoded l double))
unfolding encoded jump_words jump_word plain_words
words_fit l double h k =
    let Fit : List ℕ → Type 0 = λ ws. BusWords (bus_of ws) in
    let base = base-low l.row h in
    cond_both Fit (leb 79 l.row)
    (three-fit _ _ _ (omega arith)
    (fits (cond (ltb l.row 82) (768 + (l.row - 79)) (l.d % 4 * 256 + (l.row - 82)))
    (cond_both (λ n. n < 2000) (ltb l.row 82) (omega arith) (omega arith)))
    (omega arith))
    (cond_both Fit (eqb (word_count (base_of l.row + l.s % 16 * 8 + l.d % 16) double) 3)
    (three-fit _ _ _ (omega arith) (omega arith) (omega arith))
    (three-fit _ _ _ (omega arith) k (omega arith)))
  where
    fits : (n : ℕ) → n < 2000 → n + l.operand / 1024 * 4 < 65536
    fits n m = omega arith

pub read-words : (r : ℕ) (text : List ℕ) (double : Bool) → r < 86 → BusWords (bus_of (encoded (line_read r text) double))
read-words r text double h = words_fit (line_read r text) double (rw (read-row r text) h) (read-16 r text)

-- two lines that are alike are of one row, and stand for the same words, cut
pub same-cut : (read : ℕ → ℕ) (at : ℕ) (other : ℕ → ℕ) (to : ℕ) (double : Bool) → read (wrap_add at 1) < 65536 → other (wrap_add to 1) < 65536
    → row_text_at read at double ≡ row_text_at other to double → cut_at read at double ≡ cut_at other to double
same-cut read at other to double h k e =
    let l = (row_entry_at read at double).line in
    let m = (row_entry_at other to double).line in
    let row : l.row ≡ m.row = own_row l (entry_in read at double) m (entry_in other to double) e in
    sym (self-cut read at double h)
    ∙ ap₂ (λ (r : ℕ) (t : List ℕ). cut_at (memory_as r t double) 0 double) row e
    ∙ self-cut other to double k

-- a text that is held to any three words
module _ (text : List ℕ) (double : Bool) where
  abbrev Lists : ℕ → ℕ → ℕ → Type 0
  Lists w a b = text_at (three w a b) 0 double ≡ text

  held-some : (w a b : ℕ) → Lists w a b → held_to text double w a b ≡ answered (cut_at (three w a b) 0 double)
  unfolding held_to
  held-some w a b e = rw (same_true (text_at (three w a b) 0 double) text e)

  held : (v : List ℕ) (w a b : ℕ) → (Lists w a b → cut_at (three w a b) 0 double ≡ v) → Only v (held_to text double w a b)
  unfolding held_to
  held v w a b h =
      cond_either (Only v) (same_text (text_at (three w a b) 0 double) text)
      (λ e. h (same-eq (text_at (three w a b) 0 double) text e))
      (λ e. refl)

  held_none : (w a b : ℕ) → (Lists w a b → ⊥) → held_to text double w a b ≡ no_line
  unfolding held_to
  held_none w a b never =
      cond_either (λ (r : Report (List ℕ)). r ≡ no_line) (same_text (text_at (three w a b) 0 double) text)
      (λ e. absurd (never (same-eq (text_at (three w a b) 0 double) text e)))
      (λ e. refl)

  held_back : (w a b : ℕ) (ws : List ℕ) → held_to text double w a b ≡ answered ws → Lists w a b × (cut_at (three w a b) 0 double ≡ ws)
  unfolding held_to
  held_back w a b ws =
      cond_either (λ (r : Report (List ℕ)). r ≡ answered ws → Lists w a b × (cut_at (three w a b) 0 double ≡ ws)) (same_text (text_at (three w a b) 0 double) text)
      (λ e f. (same-eq (text_at (three w a b) 0 double) text e, same_answer f))
      (λ e f. no_answer f)

  second_word : (w a b : ℕ) → a < 65536 → three w a b (wrap_add 0 1) < 65536
  second_word w a b h = rw (second w a b) h

  -- one of the words that list as a text tells what it stands for
  pub assembled-from : (w a b : ℕ) → w < 1024 → a < 65536 → b < 65536 → Lists w a b → assemble_of text double ≡ answered (cut_at (three w a b) 0 double)
  unfolding assemble_of
  assembled-from w a b h k l e =
      any_some v _ _ (λ w₁ h₁. any-only v _ _ (λ a₁ k₁. any-only v _ _ (λ b₁ l₁. alike w₁ a₁ b₁ k₁))) w h
      (any_some v _ _ (λ a₁ k₁. any-only v _ _ (λ b₁ l₁. alike w a₁ b₁ k₁)) a k
      (any_some v _ _ (λ b₁ l₁. alike w a b₁ k) b l (held-some w a b e)))
    where
      v : List ℕ
      v = cut_at (three w a b) 0 double

      alike : (w₁ a₁ b₁ : ℕ) → a₁ < 65536 → Only v (held_to text double w₁ a₁ b₁)
      alike w₁ a₁ b₁ k₁ =
          held v w₁ a₁ b₁
          (λ e₁. same-cut (three w₁ a₁ b₁) 0 (three w a b) 0 double (second_word w₁ a₁ b₁ k₁) (second_word w a b k)
          (text_is (three w₁ a₁ b₁) 0 double ∙ e₁ ∙ sym e ∙ sym (text_is (three w a b) 0 double)))

  pub not-assembled : ((w a b : ℕ) → a < 65536 → Lists w a b → ⊥) → assemble_of text double ≡ no_line
  unfolding assemble_of
  not-assembled never =
      any_none _ _ (λ w h. any_none _ _ (λ a k. any_none _ _ (λ b l. held_none w a b (λ e. never w a b k e))))

  -- what is assembled comes from words that list as the text
  pub found : (ws : List ℕ) → assemble_of text double ≡ answered ws → WordsOf text double ws
  unfolding assemble_of
  found ws e =
      let p = any_place ws _ _ e in
      let q = any_place ws _ _ p.answers in
      let r = any_place ws _ _ q.answers in
      let k = p.low in
      let back = held_back p.number q.number r.number ws r.answers in
      record {
        memory = p.number ∷ q.number ∷ r.number ∷ [];
        short = lit≤ tt;
        words = three-fit p.number q.number r.number (omega arith) q.low r.low;
        lists = back.0;
        cut = back.1;
      }

-- the words at an address, and they alone, tell what its line stands for
pub comes_back : (read : ℕ → ℕ) (at : ℕ) (double : Bool) → read (wrap_add at 1) < 65536 → read (wrap_add at 2) < 65536
    → assemble_of (text_at read at double) double ≡ answered (cut_at read at double)
comes_back read at double k l =
    let w = opcode_of (read at) in
    let a = read (wrap_add at 1) in
    let b = read (wrap_add at 2) in
    let entry : row_entry_at (three w a b) 0 double ≡ row_entry_at read at double = three-entry w a b double (omega arith) ∙ sym (entry-with read at double) in
    let lists : text_at (three w a b) 0 double ≡ text_at read at double = sym (text_is (three w a b) 0 double) ∙ ap (λ (e : RowEntry). text_of e.line) entry ∙ text_is read at double in
    assembled-from (text_at read at double) double w a b (omega arith) k l lists
    ∙ ap answered (three-cut w a b double (omega arith) ∙ sym (cut-with read at double))

-- the code's answer, by the row that it guesses
module _ (text : List ℕ) (double : Bool) (g : ℕ) (low : g < 86) (guessed : Guesses text g) where
  abbrev memory : ℕ → ℕ
  memory = memory_as g text double

  abbrev accepts : Bool
  accepts = same_text (row_text_at memory 0 double) text

  -- what lists as the text is of the row guessed
  module _ (read : ℕ → ℕ) (at : ℕ) (e : row_text_at read at double ≡ text) where
    abbrev its-line : Line
    its-line = (row_entry_at read at double).line

    its-row : g ≡ its-line.row
    its-row = guessed its-line (entry_in read at double) (sym e)

    own-memory : memory ≡ memory_as its-line.row (text_of its-line) double
    own-memory = ap₂ (λ (r : ℕ) (t : List ℕ). memory_as r t double) its-row (sym e)

    guess-accepts : read (wrap_add at 1) < 65536 → accepts ≡ true
    guess-accepts h =
        same_true (row_text_at memory 0 double) text
        (ap (λ (m : ℕ → ℕ). row_text_at m 0 double) own-memory ∙ ap (λ (x : RowEntry). text_of x.line) (self-entry read at double h) ∙ e)

  pub accepted : accepts ≡ true
      → answered (first_words (encoded (line_read g text) double) (row_entry_at memory 0 double).words) ≡ assemble_of text double
  accepted ok =
      let e = same-eq (row_text_at memory 0 double) text ok in
      let fits = read-words g text double low in
      let n = (row_entry_at memory 0 double).words in
      let words : first_words (encoded (line_read g text) double) n ≡ cut_at memory 0 double =
      ap₂ (λ (r : ℕ) (t : List ℕ). first_words (encoded (line_read r t) double) n) (its-row memory 0 e) (sym e)
      ∙ self-first memory 0 double (fits (wrap_add 0 1))
      in
      ap answered words
      ∙ sym (comes_back memory 0 double (fits (wrap_add 0 1)) (fits (wrap_add 0 2)))
      ∙ ap (λ (t : List ℕ). assemble_of t double) (sym (text_is memory 0 double) ∙ e)

  pub refused-by : accepts ≡ false → no_line ≡ assemble_of text double
  refused-by f =
      sym (not-assembled text double
      (λ w a b k e. clash (guess-accepts (three w a b) 0 (text_is (three w a b) 0 double ∙ e) (second_word text double w a b k)) f))

  -- a text that is not as long as the lines of its row
  pub refused-length : (length (template_of g) ≡ length text → ⊥) → no_line ≡ assemble_of text double
  refused-length other = refused-by (go accepts refl)
    where
      go : (b : Bool) → accepts ≡ b → accepts ≡ false
      go true ok =
          let s = same-eq (row_text_at memory 0 double) text ok in
          absurd (other (ap (λ (r : ℕ). length (template_of r)) (its-row memory 0 s) ∙ sym (text-length (its-line memory 0 s)) ∙ ap length s))
      go false none = none
