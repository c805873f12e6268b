-- Document 01's own lines, by computing; and back, by the law of the round trip.
use Prim.Native.Nat.{ℕ, ◌<◌}
use mathlib.Core.Path.{◌≡◌, refl, sym, ap, ◌∙◌}
use mathlib.Core.Bool.{false}
use mathlib.Core.List.{List, [], ◌∷◌}
use lib.Dec.{lit<}
use Rattle.refusal.specs.Report.{answered}
use Rattle.word.specs.Word.{wrap_add}
use Rattle.memory.specs.Memory.{peek_of}
use Rattle.memory.specs.Bus.{bus_of, read_of}
use Rattle.decode.specs.Fields.{joined, return_of, jump_target}
use Rattle.decode.specs.Decode.{control_instruction, status_instruction, low_instruction, instruction_of, is_unspecified, decode_at}
use Rattle.decode.specs.Rows.{interruptible_entry, plain_entry, jump_entry, register_entry, shift_entry, branch_entry, memory_words, store_entry, read_words, read_entry}
use Rattle.text.specs.Text.{digit_of, hex_of}
use Rattle.listing.specs.Line.{
  single_names,
  shift_names,
  row_names,
  condition_names,
  input_names,
  jump_names,
  call_names,
  nop_names,
  sin_names,
  branch_text,
  line_operand,
}
use Rattle.listing.specs.Disassemble.{entry_at}
use Rattle.listing.specs.Cut.{cut_words, cut_at}
use Rattle.listing.specs.Assemble.{assemble_of}
use Rattle.listing.specs.Examples.{line_from, DocumentLines}
use Rattle.listing.proofs.Accept.{three-fit}
use Rattle.listing.proofs.RoundTrip.{listed-comes-back}

-- the line of three words gives them back, cut
back : (x y z : ℕ) → x < 65536 → y < 65536 → z < 65536 → {line ws : List ℕ} → line_from (x ∷ y ∷ z ∷ []) ≡ line
    → cut_at (read_of (bus_of (x ∷ y ∷ z ∷ []))) 0 false ≡ ws → assemble_of line false ≡ answered ws
back x y z h k l e f =
    ap (λ (t : List ℕ). assemble_of t false) (sym e)
    ∙ listed-comes-back (bus_of (x ∷ y ∷ z ∷ [])) 0 false (three-fit x y z h k l)
    ∙ ap answered f

pub document-lines : DocumentLines
unfolding wrap_add peek_of read_of joined return_of jump_target control_instruction status_instruction low_instruction instruction_of is_unspecified decode_at interruptible_entry plain_entry jump_entry register_entry shift_entry branch_entry memory_words store_entry read_words read_entry digit_of hex_of single_names shift_names row_names condition_names input_names jump_names call_names nop_names sin_names branch_text line_operand entry_at cut_words cut_at
document-lines =
    record {
      single = refl;
      by_one = refl;
      by_two = refl;
      nop = refl;
      nop_two = refl;
      sin_two = refl;
      register = refl;
      read_direct = refl;
      store_direct = refl;
      read_through = refl;
      store_through = refl;
      store_stack = refl;
      read_immediate = refl;
      store_immediate = refl;
      forward = refl;
      backward = refl;
      external = refl;
      jump = refl;
      jump_enabling = refl;
      jump_disabling = refl;
      call = refl;
      call_enabling = refl;
      call_disabling = refl;
      jump_bits_3 = refl;
      stack_under_d = refl;
      immediate_under_d = refl;
      register_back = back 0x0CA 0 0 (lit< tt) (lit< tt) (lit< tt) refl refl;
      branch_back = back 0x224 0x0001 0 (lit< tt) (lit< tt) (lit< tt) refl refl;
      call_back = back 0x004 0x110 0x234 (lit< tt) (lit< tt) (lit< tt) refl refl;
      decle_back = back 0x004 0x313 0x234 (lit< tt) (lit< tt) (lit< tt) refl refl;
    }
