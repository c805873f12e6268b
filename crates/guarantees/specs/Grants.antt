-- A list of steps up to its first grant: the words in which demand 3 speaks of it.
use Rattle.std.specs.Prelude.{Bool, false, not, cond, ◌&&◌, ◌||◌, Option, None, Some, List, [], ◌∷◌, eqb}
use Rattle.refusal.specs.Report.{Report, refused, answered}
use Rattle.decode.specs.declared.Instr.{Instr}
use Rattle.decode.specs.declared.Instr.TheVariants.{Hlt, Control, Jump, Single, Gswd, Nop, Sin, Shift, Register, Branch, Store, Read}
use Rattle.decode.specs.Fields.{is_nopp}
use Rattle.cpu.specs.declared.Lines.{Lines}
use Rattle.cpu.specs.Machine.{Machine}
use Rattle.cpu.specs.Answer.{StepDone}
use Rattle.cpu.specs.Branch.{is_taken}
use Rattle.cpu.specs.Step.{decoded}
use Rattle.cpu.specs.Steps.{StepMade}

-- "3. .. the bus is granted"
abbrev pub is_grant : Report StepDone → Bool
is_grant (refused n) = false
is_grant (answered x) = eqb x.kind 3

-- whether a grant comes
unfoldable pub grants : List StepMade → Bool
grants [] = false
grants (x ∷ t) = is_grant x.left.answer || grants t

-- "the steps before the granting one", the first; where none grants, all of them
unfoldable pub before_grant : List StepMade → List StepMade
before_grant [] = []
before_grant (x ∷ t) = cond (is_grant x.left.answer) [] (x ∷ before_grant t)

-- "a branch, other than NOPP, that is not taken"
abbrev pub is_untaken : Instr → Machine → Lines → Bool
is_untaken Hlt m l = false
is_untaken (Control d) m l = false
is_untaken Jump m l = false
is_untaken (Single s d) m l = false
is_untaken (Gswd d) m l = false
is_untaken (Nop n) m l = false
is_untaken (Sin n) m l = false
is_untaken (Shift s d) m l = false
is_untaken (Register row s d) m l = false
is_untaken (Branch b) m l = not (is_nopp b) && not (is_taken m.flags l.external b)
is_untaken (Store s d) m l = false
is_untaken (Read row s d) m l = false

abbrev pub decoded_untaken : Option Instr → Machine → Lines → Bool
decoded_untaken None m l = false
decoded_untaken (Some i) m l = is_untaken i m l

-- .. the instruction at which a step's machine stands
unfoldable pub step_untaken : StepMade → Bool
step_untaken x = decoded_untaken (decoded x.machine x.bus) x.machine x.lines

-- .. "the last instruction" of these steps
unfoldable pub last_untaken : List StepMade → Bool
last_untaken [] = false
last_untaken (x ∷ []) = step_untaken x
last_untaken (x ∷ y ∷ t) = last_untaken (y ∷ t)
