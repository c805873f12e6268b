-- Every worked case holds: the checker computes the steps and the walk of the whole table, from the definitions alone.
use mathlib.Core.Path.{refl}
use Rattle.word.specs.Word.{wrap_add, wrap_sub}
use Rattle.word.specs.Flags.{with_sign, add_of, subtract_of, status_word}
use Rattle.word.specs.Shifts.{with_low_sign, swap_twice, rlc_twice, sar_once}
use Rattle.memory.specs.Memory.{peek_of}
use Rattle.memory.specs.Bus.{read_of, admission_of}
use Rattle.decode.specs.Fields.{joined, branch_target, return_of, jump_target, interrupts_after}
use Rattle.decode.specs.Decode.{control_instruction, status_instruction, low_instruction, instruction_of, is_unspecified, decode_at}
use Rattle.decode.specs.Rows.{interruptible_entry, plain_entry, control_entry, jump_entry, register_entry, shift_entry, operate_cycles, branch_cycles, branch_entry, memory_words, read_cycles, read_words, read_entry}
use Rattle.cpu.specs.Machine.{result}
use Rattle.cpu.specs.Control.{jump}
use Rattle.cpu.specs.Single.{negr, gswd, shifted}
use Rattle.cpu.specs.Operate.{mvi, add, sub, cmp}
use Rattle.cpu.specs.Branch.{condition_holds, is_taken, branch}
use Rattle.cpu.specs.Execute.{begun}
use Rattle.cpu.specs.Step.{noted, plan_of, execution_words, executed_from, executed, admitted_action, action_of, step_of}
use Rattle.cpu.specs.Steps.{steps_from, last_machine}
use Rattle.meter.specs.Walk.{limit_of, start_at, place_after, row_turn, turn_at, walk_by, walk_on, walk_from}
use Rattle.meter.specs.Meter.{wait_of}
use Rattle.test_step.specs.Table.{zeros, EveryCase}

pub every-case : EveryCase
unfolding wrap_add wrap_sub with_sign add_of subtract_of status_word with_low_sign swap_twice rlc_twice sar_once peek_of read_of admission_of joined branch_target return_of jump_target interrupts_after control_instruction status_instruction low_instruction instruction_of is_unspecified decode_at interruptible_entry plain_entry control_entry jump_entry register_entry shift_entry operate_cycles branch_cycles branch_entry memory_words read_cycles read_words read_entry result jump negr gswd shifted mvi add sub cmp condition_holds is_taken branch begun noted plan_of execution_words executed_from executed admitted_action action_of step_of steps_from last_machine limit_of start_at place_after row_turn turn_at walk_by walk_on walk_from wait_of zeros
every-case = (refl, (refl, (refl, (refl, (refl, (refl, (refl, (refl, (refl, (refl, (refl, (refl, tt))))))))))))
