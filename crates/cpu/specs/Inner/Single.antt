-- The result of a row of one register with its flags, by s, as the code has it: f is the register's word with the old flags.
use Rattle.std.specs.Prelude.{ℕ, cond, eqb}
use Rattle.word.specs.declared.Flagged.{Flagged}
use Rattle.word.specs.Word.{wrap_add, wrap_sub, bit_value}
use Rattle.word.specs.Flags.{set_sz, add_of, subtract_of, from_status}

unfoldable pub single_result : ℕ → Flagged → Flagged
single_result s f =
    cond (eqb s 1) (set_sz (wrap_add f.value 1) f)
    (cond (eqb s 2) (set_sz (wrap_sub f.value 1) f)
    (cond (eqb s 3) (set_sz (wrap_sub 0xFFFF f.value) f)
    (cond (eqb s 4) (subtract_of 0 f.value)
    (cond (eqb s 5) (add_of f.value (bit_value f.c)) (from_status f.value)))))
