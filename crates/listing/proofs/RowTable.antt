-- (e) of `specs/Laws`: words used and next D are those of the row table.
use Rattle.std.proofs.Common.{None, Some}
use Prim.Native.Nat.{ℕ, ◌<◌}
use mathlib.Core.Path.{◌≡◌, refl, sym, ap, ◌∙◌}
use mathlib.Core.Bool.{Bool, true, false, cond, ◌&&◌}
use native.Mathlib.Omega.{arith}
use lib.Dec.{T, eqb, leb, eqb→eq}
use borrow.Author.Tests.{eq-eqb}
use Rattle.word.specs.Word.{wrap_add}
use Rattle.decode.specs.declared.Instr.{Instr}
use Rattle.decode.specs.Fields.{opcode_of, field_s, jump_bits}
use Rattle.decode.specs.Decode.{control_instruction, status_instruction, low_instruction, instruction_of, is_unspecified, decode_at}
use Rattle.decode.specs.Rows.{interruptible_entry, plain_entry, halt_entry, control_entry, jump_entry, register_entry, shift_entry, branch_entry, memory_words, store_entry, read_words, read_entry, row_of}
use Rattle.text.specs.Text.{hex_of}
use Rattle.text.proofs.Tests.{below, below_at, both_left, both_right}
use Rattle.listing.specs.Line.{line_of, line_operand}
use Rattle.listing.specs.Disassemble.{Entry, decle_entry, entry_at}
use Rattle.listing.specs.Laws.{EveryRowFollows}
use Rattle.listing.proofs.Tests.{imp, imp-at}

-- what an entry takes from the row of its instruction
Follows : Entry → Instr → Bool → Type 0
Follows e i double = (e.words ≡ (row_of i double).words) × (e.double ≡ (row_of i double).double)

-- an instruction is decoded under D as without it, unless it is unspecified
module _ (read : ℕ → ℕ) (at : ℕ) where
  abbrev w : ℕ
  w = opcode_of (read at)

  abbrev ends : Bool
  ends = eqb (jump_bits (read (wrap_add at 1))) 3

  abbrev stacked : Bool
  stacked = leb 0x280 w && eqb (field_s w) 6

  decoded : (double : Bool) → decode_at read at double ≡ cond (cond (eqb w 4) ends (double && stacked)) None (Some (instruction_of w))
  unfolding decode_at is_unspecified
  decoded double = refl

  is_known : (double : Bool) (i : Instr) → decode_at read at double ≡ Some i → i ≡ instruction_of w
  is_known double i e = go (cond (eqb w 4) ends (double && stacked)) (sym (decoded double) ∙ e)
    where
      go : (b : Bool) → cond b None (Some (instruction_of w)) ≡ Some i → i ≡ instruction_of w
      go true e = cc
      go false e = cc

  clear : (double : Bool) (i : Instr) → decode_at read at double ≡ Some i → decode_at read at false ≡ Some i
  clear double i e = decoded false ∙ go (eqb w 4) ends stacked double (sym (decoded double) ∙ e) (ap Some (sym (is_known double i e)))
    where
      go : (j b s d : Bool) → cond (cond j b (d && s)) None (Some (instruction_of w)) ≡ Some i → Some (instruction_of w) ≡ Some i
          → cond (cond j b (false && s)) None (Some (instruction_of w)) ≡ Some i
      go true b s d e k = e
      go false b s true e k = k
      go false b s false e k = e

  entry_of : (double : Bool) (i : Instr) → decode_at read at false ≡ Some i → Follows (entry_at read at double) i double
  unfolding entry_at Follows
  entry_of double i e = rw e (refl, refl)

  jump-entry : (double : Bool) → w ≡ 4 → jump_bits (read (wrap_add at 1)) ≡ 3 → entry_at read at double ≡ decle_entry
  unfolding entry_at
  jump-entry double e f = rw (decoded false, eq-eqb w 4 e, eq-eqb (jump_bits (read (wrap_add at 1))) 3 f)

  -- only a stack read is unspecified under D and known without it
  is-stacked : (double : Bool) (i : Instr) → decode_at read at double ≡ None → decode_at read at false ≡ Some i → (double ≡ true) × (stacked ≡ true)
  is-stacked double i e f = go (eqb w 4) ends stacked double (sym (decoded double) ∙ e) (sym (decoded false) ∙ f)
    where
      go : (j b s d : Bool) → cond (cond j b (d && s)) None (Some (instruction_of w)) ≡ None
          → cond (cond j b (false && s)) None (Some (instruction_of w)) ≡ Some i → (d ≡ true) × (s ≡ true)
      go true true s d e f = cc
      go true false s d e f = cc
      go false b true true e f = (refl, refl)
      go false b false true e f = cc
      go false b s false e f = cc

-- a stack read has the same words under D, and clears it
abbrev same_bool : Bool → Bool → Bool
same_bool true b = b
same_bool false b = cond b false true

bool_same : (a b : Bool) → T (same_bool a b) → a ≡ b
bool_same true true t = refl
bool_same true false t = absurd t
bool_same false true t = absurd t
bool_same false false t = refl

abbrev alike : ℕ → Bool
alike w =
    imp (leb 0x280 w && eqb (field_s w) 6)
    (eqb (row_of (instruction_of w) true).words (row_of (instruction_of w) false).words
    && same_bool (row_of (instruction_of w) true).double (row_of (instruction_of w) false).double)

alike-test : T (below alike 1024)
unfolding instruction_of low_instruction control_instruction status_instruction interruptible_entry plain_entry halt_entry control_entry jump_entry register_entry shift_entry branch_entry memory_words store_entry read_words read_entry
alike-test = tt

stack-alike : (w : ℕ) → w < 1024 → (leb 0x280 w && eqb (field_s w) 6) ≡ true
    → ((row_of (instruction_of w) true).words ≡ (row_of (instruction_of w) false).words) × ((row_of (instruction_of w) true).double ≡ (row_of (instruction_of w) false).double)
stack-alike w h e =
    let t = imp-at (leb 0x280 w && eqb (field_s w) 6) _ (below_at alike 1024 alike-test w h) e in (
      eqb→eq (row_of (instruction_of w) true).words (row_of (instruction_of w) false).words
          (both_left (eqb (row_of (instruction_of w) true).words (row_of (instruction_of w) false).words) (same_bool (row_of (instruction_of w) true).double (row_of (instruction_of w) false).double) t),
      bool_same (row_of (instruction_of w) true).double (row_of (instruction_of w) false).double
          (both_right (eqb (row_of (instruction_of w) true).words (row_of (instruction_of w) false).words) (same_bool (row_of (instruction_of w) true).double (row_of (instruction_of w) false).double) t),
    )

stack-entry : (read : ℕ → ℕ) (at : ℕ) (double : Bool) (i : Instr) → decode_at read at double ≡ None → decode_at read at false ≡ Some i
    → entry_at read at double ≡ entry_at read at false
unfolding entry_at
stack-entry read at double i e f =
    let p = is-stacked read at double i e f in
    let s = stack-alike (opcode_of (read at)) (omega arith) p.1 in
    let k = is_known read at false i f in
    let a = read (wrap_add at 1) in
    let b = read (wrap_add at 2) in
    let words : (row_of i true).words ≡ (row_of i false).words = rw k s.0 in
    let next : (row_of i true).double ≡ (row_of i false).double = rw k s.1 in
    rw (p.0, f)
    (λ j. record { text = line_of i (hex_of (line_operand (words j) a b)) a b; words = words j; double = next j })

pub every-row-follows : EveryRowFollows
unfolding Follows
every-row-follows read at double =
    record {
      known = λ i e. entry_of read at double i (clear read at double i e);
      jump_bits_back = λ e f. jump-entry read at double e f;
      stack = λ i e f. stack-entry read at double i e f;
    }
