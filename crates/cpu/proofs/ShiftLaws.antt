-- What a step that makes one of the rows that shift through carry leaves, bit by bit.
use Prim.Native.Nat.{ℕ, ◌%◌, ◌<◌}
use mathlib.Core.Path.{◌≡◌, refl, sym, ap, subst, ◌∙◌}
use mathlib.Core.List.{List}
use native.Mathlib.Omega.{arith}
use lib.Dec.{leb}
use lib.ListN.{get_or}
use Rattle.word.specs.declared.Flagged.{Flagged}
use Rattle.word.specs.Shifts.{shift_once, shift_twice, shift_of}
use Rattle.word.specs.ThroughCarry.{CarryRow, rlc_row, sllc_row, rrc_row, sarc_row, row_number, form_of, Gives}
use Rattle.word.proofs.ThroughCarry.{bit-by-bit}
use Rattle.memory.specs.Memory.{peek_of}
use Rattle.memory.specs.Bus.{read_of, admission_of}
use Rattle.decode.specs.declared.Instr.{Instr}
use Rattle.decode.specs.declared.Instr.TheVariants.{Shift}
use Rattle.decode.specs.Decode.{low_instruction, instruction_of, is_unspecified, decode_at}
use Rattle.decode.specs.Rows.{row_of}
use Rattle.decode.proofs.OpcodeLaws.{by-eight}
use Rattle.cpu.specs.Machine.{Machine, register, with_register, beside, flags_of, result}
use Rattle.cpu.specs.Single.{shifted, shift}
use Rattle.cpu.specs.Execute.{begun}
use Rattle.cpu.specs.Step.{noted, plan_of, executed_from, executed, Outcome, step_of}
use Rattle.cpu.specs.Laws.{ShiftsBitByBit, ShiftsInstance}
use Rattle.cpu.proofs.ActionLaws.{step-executes}
use Rattle.cpu.proofs.RegisterLaws.{other-register}

-- what was written to a register is read from it
written : (r : List ℕ) (v n : ℕ) → n < 8 → get_or (with_register n v r) n 0 ≡ v
written r v = by-eight (λ n. get_or (with_register n v r) n 0 ≡ v) refl refl refl refl refl refl refl refl

-- the row, as `shift_of` by its number
row_is : (row : CarryRow) (d : ℕ) (m : Machine) → shift (row_number row) d m ≡ result (d % 4) (shift_of (row_number row) (leb 4 d) (beside (register (d % 4) m) m.flags)) m
unfolding shifted shift_of shift_once shift_twice
row_is rlc_row d m = refl
row_is sllc_row d m = refl
row_is rrc_row d m = refl
row_is sarc_row d m = refl

-- the register that d names, with the flags beside it
abbrev shown : ℕ → Machine → Flagged
shown d m = beside (register (d % 4) m) m.flags

leaves : (row : CarryRow) (d : ℕ) (m : Machine) → shown d (shift (row_number row) d m) ≡ shift_of (row_number row) (leb 4 d) (shown d m)
unfolding result
leaves row d m =
    let r : Flagged = shift_of (row_number row) (leb 4 d) (shown d m) in
    ap (shown d) (row_is row d m) ∙ ap (λ (v : ℕ). beside v (flags_of r)) (written m.registers r.value (d % 4) (omega arith))

pub shifts-bit-by-bit : ShiftsBitByBit
unfolding noted executed executed_from begun
shifts-bit-by-bit m b l row d h e =
    let i : Instr = Shift (row_number row) d in
    let k : Machine = begun (row_of i m.switches.d) (noted m l) in
    let same : register (d % 4) k ≡ register (d % 4) m = sym (other-register m.registers _ (d % 4) (omega arith) (omega arith)) in
    let left : shown d (step_of m b l).machine ≡ shift_of (row_number row) (leb 4 d) (shown d m) =
    ap (λ (o : Outcome). shown d o.machine) (step-executes m b l i e)
    ∙ leaves row d k
    ∙ ap (λ (v : ℕ). shift_of (row_number row) (leb 4 d) (beside v m.flags)) same in
    subst (Gives (form_of row (leb 4 d)) (shown d m)) (sym left) (bit-by-bit row (leb 4 d) (shown d m) (h.words (d % 4)))

pub shifts-instance : ShiftsInstance
unfolding peek_of read_of admission_of low_instruction instruction_of is_unspecified decode_at noted plan_of
shifts-instance l = record { admitted = refl; plan = refl; instruction = refl }
