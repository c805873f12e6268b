-- The operands of reads and the results of operates, as the code has them.
use Rattle.std.specs.Prelude.{ℕ, ◌%◌, Bool, false, cond, ◌||◌, List, eqb, get_or}
use Rattle.std.specs.Int.Bits.{bit_and, bit_xor}
use Rattle.word.specs.declared.Flagged.{Flagged}
use Rattle.word.specs.Word.{wrap_add, wrap_sub}
use Rattle.word.specs.Flags.{set_sz, add_of, subtract_of, compare_of}
use Rattle.decode.specs.declared.rows.Row.{Row}
use Rattle.decode.specs.Fields.{joined}
use Rattle.decode.specs.Rows.{read_entry}
use Rattle.cpu.specs.declared.operate.Fetched.{Fetched}
use Rattle.cpu.specs.Machine.{with_register}
use Rattle.cpu.specs.Inner.Change.{no_register}

abbrev pub plain_fetched : ℕ → Row → Fetched
plain_fetched v row = record { value = v; pointer = no_register; moved = 0; row = row }

abbrev pub direct_fetched : (ℕ → ℕ) → ℕ → Fetched
direct_fetched read pc = plain_fetched (read (read (wrap_add pc 1))) (read_entry 0 false)

abbrev pub through_fetched : (ℕ → ℕ) → ℕ → ℕ → Bool → Fetched
through_fetched read s a double = plain_fetched (cond double (joined (read a) (read a)) (read a)) (read_entry s double)

-- the word at an address, or under D the low bytes of two
unfoldable pub pair_at : (ℕ → ℕ) → ℕ → Bool → ℕ
pair_at read a double = cond double (joined (read a) (read (wrap_add a 1))) (read a)

abbrev pub rising_fetched : (ℕ → ℕ) → ℕ → ℕ → Bool → Fetched
rising_fetched read s a double =
    record { value = pair_at read a double; pointer = s; moved = wrap_add a (cond double 2 1); row = read_entry s double }

abbrev pub stack_fetched : (ℕ → ℕ) → ℕ → Fetched
stack_fetched read top = record { value = read (wrap_sub top 1); pointer = 6; moved = wrap_sub top 1; row = read_entry 6 false }

abbrev pub immediate_fetched : (ℕ → ℕ) → ℕ → Bool → Fetched
immediate_fetched read pc double = plain_fetched (pair_at read (wrap_add pc 1) double) (read_entry 7 double)

unfoldable pub fetched_of : List ℕ → (ℕ → ℕ) → ℕ → Bool → ℕ → Fetched
fetched_of r read pc double s =
    cond (eqb s 0) (direct_fetched read pc)
    (cond (eqb s 4 || eqb s 5) (rising_fetched read s (get_or r s 0) double)
    (cond (eqb s 6) (stack_fetched read (get_or r 6 0))
    (cond (eqb s 7) (immediate_fetched read pc double) (through_fetched read s (get_or r s 0) double))))

unfoldable pub destination_of : List ℕ → ℕ → Fetched → ℕ → ℕ
destination_of r next g d = cond (eqb d g.pointer) g.moved (get_or (with_register 7 next r) d 0)

-- an operate or a read that is no move, by bits 8 to 6 of its opcode
unfoldable pub operated : ℕ → Flagged → ℕ → Flagged
operated n f y =
    cond (eqb n 3) (add_of f.value y)
    (cond (eqb n 4) (subtract_of f.value y)
    (cond (eqb n 5) (compare_of f.value y)
    (cond (eqb n 6) (set_sz (bit_and f.value y) f) (set_sz (bit_xor f.value y) f))))

unfoldable pub register_result : ℕ → Flagged → ℕ → Flagged
register_result row f y = cond (eqb row 2) (set_sz y f) (operated row f y)

unfoldable pub fetched_result : ℕ → Flagged → ℕ → Flagged
fetched_result row f y = cond (eqb row 10) (record { value = y; s = f.s; z = f.z; o = f.o; c = f.c }) (operated (row % 8) f y)
