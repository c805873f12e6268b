-- The rows of the code's table spell document 01's lines. A line is compared with its row's template while the operand's digits are still the
-- letters w x y z; then the digits are put in on both sides.
use Rattle.std.proofs.Common.{Some}
use Prim.Native.Nat.{ℕ, zero, suc, ◌+◌, ◌*◌, ◌/◌, ◌%◌, ◌<◌, ◌≤◌}
use Prim.Native.Char.{code}
use Prim.Native.String.{String}
use mathlib.Core.Path.{◌≡◌, refl, sym, ap, ap₂, ◌∙◌}
use mathlib.Core.Bool.{Bool, true, false, cond, not, ◌&&◌}
use mathlib.Core.List.{List, [], ◌∷◌, ◌++◌, map}
use native.Mathlib.Decide.{dec_lt}
use native.Mathlib.Omega.{arith}
use lib.Dec.{T, eqb, ltb, leb→le, lit<}
use lib.ListN.{get_or-eq_default}
use borrow.Author.Tests.{eqb-true, eqb-false, lt-ltb, ltb-true}
use Rattle.word.specs.Word.{wrap_add, bit}
use Rattle.word.proofs.Choice.{cond_both}
use Rattle.decode.specs.declared.Instr.{Instr}
use Rattle.decode.specs.declared.Instr.TheVariants.{Hlt, Control, Jump, Single, Gswd, Nop, Sin, Shift, Register, Branch, Store, Read}
use Rattle.decode.specs.Fields.{Mode, direct, through, rising, stack, immediate, mode_of, is_backward, is_external, is_negated, input_number, condition_number, Return, no_return, return_in, return_of, jump_target, jump_bits, opcode_of}
use Rattle.decode.specs.Decode.{control_instruction, status_instruction, low_instruction, instruction_of, is_unspecified, decode_at}
use Rattle.decode.specs.Rows.{interruptible_entry, jump_entry, row_of}
use Rattle.text.specs.Text.{codes, digit_of, hex_of, same_text}
use Rattle.text.proofs.Tests.{below, below_at, both_left, both_right, same-eq, clash}
use Rattle.listing.specs.declared.line.Line.{Line}
use Rattle.listing.specs.Line.{name_in, control_names, single_names, shift_names, row_names, condition_names, negated_names, input_names, jump_names, call_names, nop_names, sin_names, register_text, mode_mark, mode_text, branch_text, jump_text, line_of, line_operand}
use Rattle.listing.specs.Disassemble.{Entry, decle_entry, entry_of, entry_at, text_at}
use Rattle.listing.specs.Inner.Rows.{first_letter, rows, template_of}
use Rattle.listing.specs.Inner.Line.{line_with, sign_of, field_of, glyph_of, text_of}
use Rattle.listing.specs.Inner.Entry.{jump_line, control_line, single_line, shift_line, branch_line, memory_line, register_line, row_line_of, row_entry_for, row_text_at, shown}
use Rattle.listing.specs.Inner.Laws.{RowsSpellLines}
use Rattle.listing.proofs.Tests.{truth, imp, imp-at}
use Rattle.listing.proofs.Table.{is_hex}
use Rattle.listing.proofs.Entries.{return_of-is, jump-line}
use Rattle.listing.proofs.EntryWith.{row_entry, entry_with, entry-with}
use Rattle.listing.proofs.Opcodes.{is_jump, no_jump, plain-line, shape, with_operand}

-- a symbol with the digits of x for the letters w x y z
unfoldable put : ℕ → ℕ → ℕ
put x h = cond (is_hex h) (glyph_of (line_with 0 0 0 x) h) h

-- a text in which they are put
record Put (x : ℕ) (t u : List ℕ) : Type 0 where
  filled : map (put x) t ≡ u

infixl 6 ◌then◌
◌then◌ : {x : ℕ} {t u l m : List ℕ} → Put x t u → Put x l m → Put x (t ++ l) (u ++ m)
◌then◌ {x} {t} {u} {l} {m} p q = record { filled = split t ∙ ap₂ (λ (a b : List ℕ). a ++ b) p.filled q.filled }
  where
    split : (k : List ℕ) → map (put x) (k ++ l) ≡ map (put x) k ++ map (put x) l
    split [] = refl
    split (c ∷ k) = ap (λ (r : List ℕ). put x c ∷ r) (split k)

put-operand : (x : ℕ) → Put x (codes "wxyz") (hex_of x)
unfolding put glyph_of field_of hex_of
put-operand x = record { filled = refl }

-- what has no small letter stays
put_low : (x c : ℕ) → c < first_letter → put x c ≡ c
unfolding put
put_low x c h = rw (lt-ltb c first_letter h)

abbrev plain : List ℕ → Bool
plain [] = true
plain (c ∷ t) = ltb c first_letter && plain t

put-plain : (x : ℕ) (t : List ℕ) → T (plain t) → Put x t t
put-plain x [] p = record { filled = refl }
put-plain x (c ∷ t) p =
    let low : c < first_letter = ltb-true c first_letter (truth (ltb c first_letter) (both_left (ltb c first_letter) (plain t) p)) in
    let rest = put-plain x t (both_right (ltb c first_letter) (plain t) p) in
    record { filled = ap₂ (λ (a : ℕ) (b : List ℕ). a ∷ b) (put_low x c low) rest.filled }

abbrev plains : List String → Bool
plains [] = true
plains (s ∷ names) = plain (codes s) && plains names

put-name : (x : ℕ) (names : List String) → T (plains names) → (k : ℕ) → Put x (name_in names k) (name_in names k)
put-name x [] p k = put-plain x [] tt
put-name x (s ∷ names) p zero = put-plain x (codes s) (both_left (plain (codes s)) (plains names) p)
put-name x (s ∷ names) p (suc k) = put-name x names (both_right (plain (codes s)) (plains names) p) k

digit-plain : (n : ℕ) → digit_of n < first_letter
unfolding digit_of
digit-plain n = go (dec_lt n 16)
  where
    go : Dec (n < 16) → digit_of n < first_letter
    go (yes h) = leb→le (suc (digit_of n)) first_letter (below_at (λ (k : ℕ). ltb (digit_of k) first_letter) 16 tt n h)
    go (no h) = let past : 16 ≤ n = omega arith in rw (get_or-eq_default (codes "0123456789ABCDEF") 0 past) (lit< tt)

-- the parts of a line
put-literal : (x : ℕ) (s : String) → T (plain (codes s)) → Put x (codes s) (codes s)
put-literal x s p = put-plain x (codes s) p

put-register : (x n : ℕ) → Put x (register_text n) (register_text n)
put-register x n =
    put-literal x "R" tt then record { filled = ap (λ (c : ℕ). c ∷ []) (put_low x (digit_of n) (digit-plain n)) }

put-mark : (x : ℕ) (m : Mode) → Put x (mode_mark m) (mode_mark m)
put-mark x direct = put-plain x [] tt
put-mark x (through s) = put-literal x "@" tt
put-mark x (rising s) = put-literal x "@" tt
put-mark x stack = put-literal x "@" tt
put-mark x immediate = put-literal x "I" tt

put-mode : (x : ℕ) (m : Mode) → Put x (mode_text m (codes "wxyz")) (mode_text m (hex_of x))
put-mode x direct = put-literal x "$" tt then put-operand x
put-mode x (through s) = put-register x s
put-mode x (rising s) = put-register x s
put-mode x stack = put-literal x "R6" tt
put-mode x immediate = put-literal x "#$" tt then put-operand x

put-branch : (x b : ℕ) → Put x (branch_text b (codes "wxyz")) (branch_text b (hex_of x))
unfolding branch_text input_names negated_names condition_names
put-branch x b =
    let Stays : List ℕ → Type 0 = λ t. Put x t t in
    let names = cond (is_negated b) negated_names condition_names in
    let plain-names : T (plains names) = cond_both (λ (n : List String). T (plains n)) (is_negated b) tt tt in
    cond_both Stays (is_external b)
    (put-literal x "BEXT " tt then put-name x input_names tt (input_number b) then put-literal x "," tt)
    (put-name x names plain-names (condition_number b) then put-literal x " " tt)
    then (cond_both Stays (is_backward b) (put-literal x "-$" tt) (put-literal x "+$" tt) then put-operand x)

-- the digits of its operand are put in a line, whatever words follow
put-line : (i : Instr) (x a b : ℕ) → is_jump i ≡ false → Put x (line_of i (codes "wxyz") 0 0) (line_of i (hex_of x) a b)
unfolding control_names single_names shift_names row_names nop_names sin_names
put-line Hlt x a b e = put-literal x "HLT" tt
put-line (Control d) x a b e = put-name x control_names tt d
put-line Jump x a b e = clash refl e
put-line (Single s d) x a b e = put-name x single_names tt s then put-literal x " " tt then put-register x d
put-line (Gswd d) x a b e = put-literal x "GSWD " tt then put-register x d
put-line (Nop n) x a b e = put-name x nop_names tt n
put-line (Sin n) x a b e = put-name x sin_names tt n
put-line (Shift s d) x a b e =
    put-name x shift_names tt s then put-literal x " " tt then put-register x (d % 4)
    then cond_both (λ (t : List ℕ). Put x t t) (bit 2 d) (put-literal x ",2" tt) (put-plain x [] tt)
put-line (Register row s d) x a b e =
    put-name x row_names tt row then put-literal x " " tt then put-register x _ then put-literal x "," tt then put-register x _
put-line (Branch c) x a b e = put-branch x c
put-line (Store s d) x a b e =
    put-literal x "MVO" tt then put-mark x (mode_of s) then put-literal x " " tt then put-register x d then put-literal x "," tt
    then put-mode x (mode_of s)
put-line (Read row s d) x a b e =
    put-name x row_names tt row then put-mark x (mode_of s) then put-literal x " " tt then put-mode x (mode_of s) then put-literal x "," tt
    then put-register x d

-- a template with all put in but the operand's digits
abbrev partly : Line → ℕ → ℕ
partly l h = cond (is_hex h) h (glyph_of l h)

unfoldable part_text : Line → List ℕ
part_text l = map (partly l) (template_of l.row)

module _ (l : Line) (x : ℕ) where
  put-sign : put x (sign_of l.s) ≡ sign_of l.s
  unfolding sign_of
  put-sign = cond_both (λ (c : ℕ). put x c ≡ c) (eqb l.s 0) (put_low x (code "+") (lit< tt)) (put_low x (code "-") (lit< tt))

  put-letter : (h : ℕ) → ltb h first_letter ≡ false → eqb h (code "s") ≡ false → eqb h (code "d") ≡ false → eqb h (code "g") ≡ false
      → put x h ≡ glyph_of (with_operand l x) h
  unfolding put glyph_of field_of with_operand
  put-letter h i j k m = rw (i, j, k, m)

  put-symbol : (h : ℕ) → put x (partly l h) ≡ glyph_of (with_operand l x) h
  unfolding glyph_of field_of with_operand
  put-symbol h = go (ltb h first_letter) refl (eqb h (code "s")) refl (eqb h (code "d")) refl (eqb h (code "g")) refl
    where
      go : (a : Bool) → ltb h first_letter ≡ a → (b : Bool) → eqb h (code "s") ≡ b → (c : Bool) → eqb h (code "d") ≡ c → (e : Bool) → eqb h (code "g") ≡ e
          → put x (partly l h) ≡ glyph_of (with_operand l x) h
      go true i b j c k e m = rw i (put_low x h (ltb-true h first_letter i))
      go false i true j c k true m = absurd (omega (arith, eqb-true h (code "s") j, eqb-true h (code "g") m))
      go false i true j c k false m = rw (i, j, m) (put_low x _ (digit-plain _))
      go false i false j true k true m = absurd (omega (arith, eqb-true h (code "d") k, eqb-true h (code "g") m))
      go false i false j true k false m = rw (i, j, k, m) (put_low x _ (digit-plain _))
      go false i false j false k true m = rw (i, j, k, m) put-sign
      go false i false j false k false m = rw (i, j, k, m) (rw (i, j, k, m) at (put-letter h i j k m))

  put-text : (t : List ℕ) → map (put x) (map (partly l) t) ≡ map (glyph_of (with_operand l x)) t
  put-text [] = refl
  put-text (h ∷ t) = ap₂ (λ (a : ℕ) (b : List ℕ). a ∷ b) (put-symbol h) (put-text t)

  -- a line that agrees with its template before the digits are put in, agrees with it after
  spelled : (part whole : List ℕ) → T (same_text part (part_text l)) → Put x part whole → text_of (with_operand l x) ≡ whole
  unfolding part_text text_of with_operand
  spelled part whole same p =
      sym (put-text (template_of l.row))
      ∙ ap (map (put x)) (sym (same-eq part (part_text l) (truth (same_text part (part_text l)) same)))
      ∙ p.filled

-- every opcode but the jump's
abbrev agrees : ℕ → Bool
agrees w = imp (not (eqb w 4)) (same_text (line_of (instruction_of w) (codes "wxyz") 0 0) (part_text (shape w)))

agree-test : T (below agrees 1024)
unfolding control_names single_names shift_names row_names condition_names negated_names input_names nop_names sin_names branch_text shape instruction_of low_instruction control_instruction status_instruction control_line single_line shift_line branch_line memory_line register_line part_text glyph_of field_of digit_of sign_of template_of rows
agree-test = tt

plain-spells : (w : ℕ) → w < 1024 → eqb w 4 ≡ false → (x a b : ℕ)
    → text_of (with_operand (shape w) x) ≡ line_of (instruction_of w) (hex_of x) a b
plain-spells w h e x a b =
    let part = line_of (instruction_of w) (codes "wxyz") 0 0 in
    spelled (shape w) x part (line_of (instruction_of w) (hex_of x) a b)
    (imp-at (not (eqb w 4)) (same_text part (part_text (shape w))) (below_at agrees 1024 agree-test w h) (ap not e))
    (put-line (instruction_of w) x a b (no_jump w h e))

-- the jumps: J JE JD, then JSR JSRE JSRD with a return register, numbered by k
put-jump : (x : ℕ) (r : Return) (bits : ℕ) → Put x (jump_text r bits (codes "wxyz")) (jump_text r bits (hex_of x))
unfolding jump_names call_names
put-jump x no_return bits = put-name x jump_names tt bits then put-literal x " $" tt then put-operand x
put-jump x (return_in r) bits =
    put-name x call_names tt bits then put-literal x " " tt then put-register x r then put-literal x ",$" tt then put-operand x

abbrev goes-agrees : ℕ → Bool
goes-agrees e = same_text (jump_text no_return e (codes "wxyz")) (part_text (line_with (79 + e) 0 0 0))

abbrev calls-agrees : ℕ → Bool
calls-agrees k =
    same_text (jump_text (return_in (k % 4 + 4)) (k / 4) (codes "wxyz")) (part_text (line_with (82 + k / 4) 0 (k % 4 + 4) 0))

goes-test : T (below goes-agrees 3)
unfolding jump_names part_text glyph_of field_of digit_of template_of rows
goes-test = tt

calls-test : T (below calls-agrees 12)
unfolding call_names part_text glyph_of field_of digit_of template_of rows
calls-test = tt

module _ (a b : ℕ) (f : eqb (jump_bits a) 3 ≡ false) where
  abbrev address : ℕ
  address = jump_target a b

  abbrev r : ℕ
  r = a / 256 % 4

  goes-spells : text_of (line_with (79 + jump_bits a) 0 0 address) ≡ jump_text no_return (jump_bits a) (hex_of address)
  unfolding with_operand
  goes-spells =
      let n = eqb-false (jump_bits a) 3 f in
      spelled (line_with (79 + jump_bits a) 0 0 0) address
      (jump_text no_return (jump_bits a) (codes "wxyz")) (jump_text no_return (jump_bits a) (hex_of address))
      (below_at goes-agrees 3 goes-test (jump_bits a) (omega arith))
      (put-jump address no_return (jump_bits a))

  calls-spells : text_of (line_with (82 + jump_bits a) 0 (r + 4) address) ≡ jump_text (return_in (r + 4)) (jump_bits a) (hex_of address)
  unfolding with_operand
  calls-spells =
      let n = eqb-false (jump_bits a) 3 f in
      let i : (jump_bits a * 4 + r) / 4 ≡ jump_bits a = omega arith in
      let j : (jump_bits a * 4 + r) % 4 ≡ r = omega arith in
      let t : T (same_text (jump_text (return_in (r + 4)) (jump_bits a) (codes "wxyz")) (part_text (line_with (82 + jump_bits a) 0 (r + 4) 0))) =
      rw (i, j) at (below_at calls-agrees 12 calls-test (jump_bits a * 4 + r) (omega arith))
      in
      spelled (line_with (82 + jump_bits a) 0 (r + 4) 0) address
      (jump_text (return_in (r + 4)) (jump_bits a) (codes "wxyz")) (jump_text (return_in (r + 4)) (jump_bits a) (hex_of address))
      t
      (put-jump address (return_in (r + 4)) (jump_bits a))

  jump-spells : text_of (jump_line a b) ≡ jump_text (return_of a) (jump_bits a) (hex_of address)
  jump-spells = rw (jump-line a b, return_of-is a) (go (eqb r 3))
    where
      go : (c : Bool) → text_of (cond c (line_with (79 + jump_bits a) 0 0 address) (line_with (82 + jump_bits a) 0 (r + 4) address))
          ≡ jump_text (cond c no_return (return_in (r + 4))) (jump_bits a) (hex_of address)
      go true = goes-spells
      go false = calls-spells

  jump-shown : (double : Bool) → shown (record { line = jump_line a b; words = 3; double = false }) ≡ entry_of (Some (instruction_of 4)) double a b
  unfolding instruction_of low_instruction control_instruction jump_entry interruptible_entry
  jump-shown double = λ i. record { text = jump-spells i; words = 3; double = false }

pub decle : text_of (line_with 85 0 0 0) ≡ decle_entry.text
unfolding text_of glyph_of template_of rows
decle = refl

plain-shown : (w a b : ℕ) (double : Bool) → w < 1024 → eqb w 4 ≡ false → shown (row_entry w a b double) ≡ entry_of (Some (instruction_of w)) double a b
unfolding row_entry_for
plain-shown w a b double h e =
    let n = (row_of (instruction_of w) double).words in
    let x = line_operand n a b in
    let spells : text_of (row_line_of (instruction_of w) x a b) ≡ line_of (instruction_of w) (hex_of x) a b = ap text_of (plain-line w h e x a b) ∙ plain-spells w h e x a b in
    λ i. record { text = spells i; words = n; double = (row_of (instruction_of w) double).double }

pub rows-spell-lines : RowsSpellLines
unfolding entry_at decode_at is_unspecified entry_with
rows-spell-lines read at double = ap shown (entry-with read at double) ∙ go (eqb w 4) refl (eqb (jump_bits a) 3) refl
  where
    w : ℕ
    w = opcode_of (read at)

    a : ℕ
    a = read (wrap_add at 1)

    b : ℕ
    b = read (wrap_add at 2)

    go : (p : Bool) → eqb w 4 ≡ p → (q : Bool) → eqb (jump_bits a) 3 ≡ q → shown (entry_with w a b double) ≡ entry_at read at double
    go true e true f = rw (e, f) (λ i. record { text = decle i; words = 1; double = false })
    go true e false f = rw (e, f) (jump-shown a b f double ∙ ap (λ (n : ℕ). entry_of (Some (instruction_of n)) double a b) (sym (eqb-true w 4 e)))
    go false e q f = rw e (plain-shown w a b double (omega arith) e)

pub text_is : (read : ℕ → ℕ) (at : ℕ) (double : Bool) → row_text_at read at double ≡ text_at read at double
text_is read at double = ap (λ (e : Entry). e.text) (rows-spell-lines read at double)
