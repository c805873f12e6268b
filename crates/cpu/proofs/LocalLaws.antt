-- A step depends on the words that it reads, and on no others: so a range at hand changes none.
use Prim.Native.Nat.{ℕ}
use mathlib.Core.Path.{◌≡◌, refl, ap, ap₂, sym, subst, ◌∙◌}
use mathlib.Core.Bool.{Bool, true, false}
use mathlib.Core.List.{List, [], ◌∷◌, ◌++◌, map}
use Rattle.std.proofs.Common.{Option, None, Some, Result}
use Rattle.word.specs.Word.{wrap_add}
use Rattle.refusal.specs.declared.Refusal.{Refusal}
use Rattle.memory.specs.declared.map.Range.{Range}
use Rattle.memory.specs.declared.map.Board.{Board}
use Rattle.memory.specs.Bus.{Bus, bus_on, read_of, unless_barred}
use Rattle.memory.specs.Near.{in_front, Near}
use Rattle.memory.specs.Laws.{AgreeAt}
use Rattle.memory.proofs.NearLaws.{near-laws}
use Rattle.decode.specs.declared.Instr.{Instr}
use Rattle.decode.specs.declared.Instr.TheVariants.{Hlt, Control, Jump, Single, Gswd, Nop, Sin, Shift, Register, Branch, Store as StoreRow, Read}
use Rattle.decode.specs.Fields.{Mode, direct, through, rising, stack, immediate, mode_of}
use Rattle.decode.specs.Rows.{row_of}
use Rattle.decode.specs.Reads.{decoding_reads}
use Rattle.decode.proofs.DecodeLaws.{decoding-is-local}
use Rattle.cpu.specs.declared.Lines.{Lines}
use Rattle.cpu.specs.declared.Plan.{Plan}
use Rattle.cpu.specs.declared.Plan.TheVariants.{Halting, Granting, Interrupting, Executing}
use Rattle.cpu.specs.Machine.{Machine, register}
use Rattle.cpu.specs.Modes.{fetch_of}
use Rattle.cpu.specs.Reads.{execution_reads}
use Rattle.cpu.specs.Execute.{begun}
use Rattle.cpu.specs.Step.{noted, plan_of, Action, refused_step, execution_words, executed_from, executed, decoded, decoded_action, planned, admitted_action, action_of, made, admitted_step, near_by, near_after, decoded_reads, planned_reads, step_reads}
use Rattle.cpu.specs.Laws.{StepIsLocal, GoesByReads, StepsNear, DecodesFirst}

module _ (b c : Bus) where
  agree_left : (xs ys : List ℕ) → AgreeAt (xs ++ ys) b c → AgreeAt xs b c
  agree_left [] ys h = tt
  agree_left (x ∷ xs) ys h = (h.0, agree_left xs ys h.1)

  agree_right : (xs ys : List ℕ) → AgreeAt (xs ++ ys) b c → AgreeAt ys b c
  agree_right [] ys h = h
  agree_right (x ∷ xs) ys h = agree_right xs ys h.1

  map-agree : (xs : List ℕ) → AgreeAt xs b c → map (read_of b) xs ≡ map (read_of c) xs
  map-agree [] h = refl
  map-agree (x ∷ xs) h = ap₂ (λ (y : ℕ) (t : List ℕ). y ∷ t) h.0 (map-agree xs h.1)

  -- which addresses are read: of a direct read alone a word read tells the next
  fetch-local : (mode : Mode) (double : Bool) (at : ℕ) (m : Machine) → AgreeAt ((fetch_of mode double at m).reads (read_of b)) b c →
      (fetch_of mode double at m).reads (read_of b) ≡ (fetch_of mode double at m).reads (read_of c)
  fetch-local direct double at m h = ap (λ (x : ℕ). wrap_add at 1 ∷ x ∷ []) h.0
  fetch-local (through p) false at m h = refl
  fetch-local (through p) true at m h = refl
  fetch-local (rising p) false at m h = refl
  fetch-local (rising p) true at m h = refl
  fetch-local stack double at m h = refl
  fetch-local immediate false at m h = refl
  fetch-local immediate true at m h = refl

  reads_local : (i : Instr) (double : Bool) (at : ℕ) (m : Machine) → AgreeAt (execution_reads i double (read_of b) at m) b c →
      execution_reads i double (read_of b) at m ≡ execution_reads i double (read_of c) at m
  reads_local Hlt double at m h = refl
  reads_local (Control d) double at m h = refl
  reads_local Jump double at m h = refl
  reads_local (Single s d) double at m h = refl
  reads_local (Gswd d) double at m h = refl
  reads_local (Nop n) double at m h = refl
  reads_local (Sin n) double at m h = refl
  reads_local (Shift s d) double at m h = refl
  reads_local (Register row s d) double at m h = refl
  reads_local (Branch w) double at m h = refl
  reads_local (StoreRow s d) double at m h = refl
  reads_local (Read row s d) double at m h = fetch-local (mode_of s) double at m h

  -- the words that an execution reads, and so what is done at a decoded instruction
  pub words-local : (m : Machine) (i : Instr) → AgreeAt (decoded_reads (Some i) m b) b c → execution_words m b i ≡ execution_words m c i
  unfolding execution_words
  words-local m i h =
      map-agree (decoded_reads (Some i) m b) h
      ∙ ap (map (read_of c)) (reads_local i m.switches.d (register 7 m) (begun (row_of i m.switches.d) m) h)

  decoded-local : (x : Option Instr) (given m : Machine) (l : Lines) → AgreeAt (decoded_reads x m b) b c → decoded_action x given m b l ≡ decoded_action x given m c l
  unfolding executed
  decoded-local None given m l h = refl
  decoded-local (Some i) given m l h = ap (λ (words : List ℕ). executed_from m words l i) (words-local m i h)

  planned-local : (p : Plan) (given m : Machine) (l : Lines) → AgreeAt (planned_reads p m b) b c → planned p given m b l ≡ planned p given m c l
  planned-local Halting given m l h = refl
  planned-local Granting given m l h = refl
  planned-local Interrupting given m l h = refl
  planned-local Executing given m l h =
      let first : List ℕ = decoding_reads (read_of b) (register 7 m) in
      let more : List ℕ = decoded_reads (decoded m b) m b in
      decoded-local (decoded m b) given m l (agree_right first more h)
      ∙ ap (λ (x : Option Instr). decoded_action x given m c l) (decoding-is-local b c (register 7 m) m.switches.d (agree_left first more h))

pub step-is-local : StepIsLocal
unfolding step_reads action_of admitted_action
step-is-local m b c l e h =
    ap₂ (λ (t : Result (Unit {0}) Refusal) (a : Action). unless_barred t (refused_step m) a) e (planned-local b c (plan_of (noted m l) l) m (noted m l) l h)

-- buses that read alike agree everywhere
agree-all : (b c : Bus) → read_of b ≡ read_of c → (xs : List ℕ) → AgreeAt xs b c
agree-all b c e [] = tt
agree-all b c e (x ∷ xs) = (ap (λ (read : ℕ → ℕ). read x) e, agree-all b c e xs)

pub goes-by-reads : GoesByReads
unfolding admitted_action
goes-by-reads m b c l e =
    planned-local b c (plan_of (noted m l) l) m (noted m l) l (agree-all b c e (planned_reads (plan_of (noted m l) l) (noted m l) b))

near_same : (b : Board) (near : Range) (m : Machine) (words : List ℕ) (l : Lines) → Near b near → made (bus_on b words) (admitted_action m (bus_on (in_front near b) words) l) ≡ admitted_step m (bus_on b words) l
unfolding admitted_step
near_same b near m words l h =
    ap (made (bus_on b words)) (goes-by-reads m (bus_on (in_front near b) words) (bus_on b words) l (near-laws.reads b near words h))

near-moves : (b : Board) (near : Range) (m : Machine) → Near b near → (p : Plan) → Near b (near_by p b near m)
near-moves b near m h Halting = h
near-moves b near m h Granting = h
near-moves b near m h Interrupting = h
near-moves b near m h Executing = near-laws.moves b near (register 7 m) h

pub steps-near : StepsNear
unfolding near_after
steps-near = record { same = near_same; moves = λ b near m l h. near-moves b near m h (plan_of (noted m l) l) }

-- a step of the code, which answers the range at hand after it
module _ (b : Board) (near after : Range) (m : Machine) (l : Lines) (h : Near b near) (e : after ≡ near_after b near m l) where
  pub still-near : Near b after
  still-near = subst (Near b) (sym e) (steps-near.moves b near m l h)

  pub near_step : (words : List ℕ) → made (bus_on b words) (admitted_action m (bus_on (in_front after b) words) l) ≡ admitted_step m (bus_on b words) l
  near_step words = steps-near.same b after m words l still-near

pub decodes-first : DecodesFirst
unfolding step_reads noted
decodes-first m b l e = record { rest = decoded_reads (decoded m b) (noted m l) b; whole = ap (λ (p : Plan). planned_reads p (noted m l) b) e }
