-- What a branch's step leaves, and what a compare before it tells.
use Prim.Native.Nat.{ℕ, ◌-◌, ◌/◌, ◌%◌, ◌<◌}
use mathlib.Core.Path.{◌≡◌, refl, ap, subst, ◌∙◌}
use mathlib.Core.Bool.{Bool, true, false, not, cond, ◌||◌, true≢false}
use native.Mathlib.Omega.{arith}
use lib.ListN.{get_or}
use borrow.Author.Tests.{eqb-true}
use Rattle.word.specs.Flags.{subtract_of, compare_of}
use Rattle.word.proofs.FlagLaws.{signed-order, unsigned-order}
use Rattle.memory.specs.Bus.{Bus, read_of}
use Rattle.decode.specs.declared.Instr.TheVariants.{Register, Branch, Read}
use Rattle.decode.specs.declared.rows.Row.{Row}
use Rattle.decode.specs.Fields.{is_nopp, mode_of}
use Rattle.decode.specs.Rows.{interruptible_entry, branch_cycles, branch_entry, row_of}
use Rattle.cpu.specs.declared.Lines.{Lines}
use Rattle.cpu.specs.Machine.{Flags, Machine, register, set_register, flags_of}
use Rattle.cpu.specs.Operate.{cmp}
use Rattle.cpu.specs.Branch.{conditions, condition_holds, is_taken, branch}
use Rattle.cpu.specs.Modes.{Fetch, fetch_of}
use Rattle.cpu.specs.Execute.{begun}
use Rattle.cpu.specs.Step.{noted, execution_words, executed_from, executed, Outcome, step_of}
use Rattle.cpu.specs.Laws.{Branches, NineTakenSevenNot, OrderTells, AfterCmpr, AfterCmp, Sound}
use Rattle.cpu.proofs.ActionLaws.{step-executes}
use Rattle.cpu.proofs.SoundLaws.{begun-sound, fetched-sound, operand_low}

-- R7 after a branch
goes_to : (t : Bool) (v : ℕ) (m : Machine) → register 7 (cond t (set_register 7 v m) m) ≡ cond t v (register 7 m)
goes_to true v m = refl
goes_to false v m = refl

pub nine-taken-seven-not : NineTakenSevenNot
unfolding noted executed executed_from execution_words branch_cycles branch begun branch_entry interruptible_entry
nine-taken-seven-not m b l w h =
    let e = step-executes m b l (Branch w) h in
    record {
      costs = ap (λ (o : Outcome). o.answer) e;
      goes = ap (λ (o : Outcome). register 7 o.machine) e ∙ goes_to (is_taken m.flags l.external w) _ (begun (row_of (Branch w) m.switches.d) (noted m l));
    }

-- a branch that is no BEXT and negates nothing is taken by its condition
plain-taken : (f : Flags) (external b : ℕ) → b % 32 < 8 → is_taken f external b ≡ get_or (conditions f) (b % 8) false
unfolding is_taken condition_holds
plain-taken f external b h =
    let p : b / 16 % 2 ≡ 0 = omega arith in
    let q : b / 8 % 2 ≡ 0 = omega arith in
    rw (p, q)

-- NOPP is not taken
pub nopp-untaken : (f : Flags) (external b : ℕ) → is_nopp b ≡ true → is_taken f external b ≡ false
unfolding is_taken condition_holds
nopp-untaken f external b e =
    let n : b % 32 ≡ 8 = eqb-true (b % 32) 8 e in
    let p : b / 16 % 2 ≡ 0 = omega arith in
    let q : b / 8 % 2 ≡ 1 = omega arith in
    let r : b % 8 ≡ 0 = omega arith in
    rw (p, q, r)

-- a branch costs its row's cycles, and 2 less where it is not taken and is no NOPP
pub branch-saves : (f : Flags) (external b : ℕ) (double : Bool) → branch_cycles (is_taken f external b) ≡ (row_of (Branch b) double).cycles - cond (is_taken f external b || is_nopp b) 0 2
unfolding branch_cycles branch_entry interruptible_entry
branch-saves f external b double = go (is_taken f external b) (is_nopp b) (nopp-untaken f external b)
  where
    go : (taken nopp : Bool) → (nopp ≡ true → taken ≡ false) → cond taken 9 7 ≡ cond (not nopp) 9 7 - cond (taken || nopp) 0 2
    go true true h = absurd (true≢false (h refl))
    go true false h = refl
    go false true h = refl
    go false false h = refl

-- what the flags of a difference tell
order-tells : (m : Machine) (b : Bus) (l next : Lines) (x y : ℕ) → x < 65536 → y < 65536 → (step_of m b l).machine.flags ≡ flags_of (subtract_of x y) → OrderTells m b l next x y
unfolding compare_of
order-tells m b l next x y p q f w h =
    let left : Outcome = step_of m b l in
    let tells : Bool → Type 0 = λ taken. Branches left.machine left.bus w taken (step_of left.machine left.bus next) in
    let by : tells (is_taken (flags_of (subtract_of x y)) next.external w) =
    subst (λ (k : Flags). tells (is_taken k next.external w)) f (nine-taken-seven-not left.machine left.bus next w h) in (
      λ e.
          let r : w % 8 ≡ 5 = omega arith in
          subst tells (plain-taken _ next.external w (omega arith) ∙ ap (λ (n : ℕ). get_or (conditions (flags_of (subtract_of x y))) n false) r ∙ signed-order x y p q) by,
      λ e.
          let r : w % 8 ≡ 1 = omega arith in
          subst tells (plain-taken _ next.external w (omega arith) ∙ ap (λ (n : ℕ). get_or (conditions (flags_of (subtract_of x y))) n false) r ∙ unsigned-order x y) by,
    )

noted-sound : (m : Machine) (l : Lines) → Sound m → Sound (noted m l)
unfolding noted
noted-sound m l h = record { eight = h.eight; words = h.words }

pub after-cmpr : AfterCmpr
unfolding executed executed_from cmp
after-cmpr m b l next s d h r e =
    let row : Row = row_of (Register 5 s d) m.switches.d in
    let sound : Sound (begun row (noted m l)) = begun-sound (noted m l) b (noted-sound m l h) r row in
    order-tells m b l next (register d (begun row (noted m l))) (register s (begun row (noted m l))) (sound.words d) (sound.words s)
    (ap (λ (o : Outcome). o.machine.flags) (step-executes m b l (Register 5 s d) e))

pub after-cmp : AfterCmp
unfolding noted executed executed_from execution_words cmp
after-cmp m b l next s d h r e =
    let row : Row = row_of (Read 13 s d) m.switches.d in
    let k : Machine = begun row (noted m l) in
    let sound : Sound k = begun-sound (noted m l) b (noted-sound m l h) r row in
    let f : Fetch = fetch_of (mode_of s) m.switches.d (register 7 m) k in
    order-tells m b l next (register d f.after) (f.operand (execution_words (noted m l) b (Read 13 s d)))
    ((fetched-sound k b sound r (mode_of s) m.switches.d (register 7 m)).words d)
    (operand_low k b sound r (mode_of s) m.switches.d (register 7 m) (f.reads (read_of b)))
    (ap (λ (o : Outcome). o.machine.flags) (step-executes m b l (Read 13 s d) e))
