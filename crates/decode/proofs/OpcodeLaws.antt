-- Every opcode has an instruction with its fields in range, whose opcode it is.
use Prim.Native.Nat.{ℕ, zero, suc, ◌+◌, ◌/◌, ◌%◌, ◌<◌, ◌≤◌}
use mathlib.Core.Path.{◌≡◌, refl}
use native.Mathlib.Omega.{arith}
use lib.Dec.{eqb, ltb}
use Rattle.word.proofs.Choice.{cond_either}
use borrow.Author.Tests.{eqb-true, eqb-false, ltb-true, ltb-false}
use Rattle.decode.specs.declared.Instr.{Instr}
use Rattle.decode.specs.declared.Instr.TheVariants.{Hlt, Control, Jump, Single, Gswd, Nop, Sin, Shift, Register, Branch, Store, Read}
use Rattle.decode.specs.Fields.{field_s, field_d}
use Rattle.decode.specs.Decode.{control_instruction, status_instruction, low_instruction, instruction_of, opcode_for}
use Rattle.decode.specs.Laws.{OpcodesInvert}

-- what holds of 0 to 7 holds of a field of three bits
pub by-eight : (P : ℕ → Type 0) → P 0 → P 1 → P 2 → P 3 → P 4 → P 5 → P 6 → P 7 → (n : ℕ) → n < 8 → P n
by-eight P p0 p1 p2 p3 p4 p5 p6 p7 zero h = p0
by-eight P p0 p1 p2 p3 p4 p5 p6 p7 (suc zero) h = p1
by-eight P p0 p1 p2 p3 p4 p5 p6 p7 (suc (suc zero)) h = p2
by-eight P p0 p1 p2 p3 p4 p5 p6 p7 (suc (suc (suc zero))) h = p3
by-eight P p0 p1 p2 p3 p4 p5 p6 p7 (suc (suc (suc (suc zero)))) h = p4
by-eight P p0 p1 p2 p3 p4 p5 p6 p7 (suc (suc (suc (suc (suc zero))))) h = p5
by-eight P p0 p1 p2 p3 p4 p5 p6 p7 (suc (suc (suc (suc (suc (suc zero)))))) h = p6
by-eight P p0 p1 p2 p3 p4 p5 p6 p7 (suc (suc (suc (suc (suc (suc (suc zero))))))) h = p7
by-eight P p0 p1 p2 p3 p4 p5 p6 p7 (suc (suc (suc (suc (suc (suc (suc (suc n)))))))) h = absurd (omega arith)

-- NOP's number among 034 and 035, and SIN's among 036 and 037
bit-of : (d : ℕ) → d < 8 → (4 ≤ d → d < 6 → 4 + d % 2 ≡ d) × (6 ≤ d → 6 + d % 2 ≡ d)
bit-of =
    by-eight (λ d. (4 ≤ d → d < 6 → 4 + d % 2 ≡ d) × (6 ≤ d → 6 + d % 2 ≡ d))
    (λ a b. absurd (omega arith), λ a. absurd (omega arith))
    (λ a b. absurd (omega arith), λ a. absurd (omega arith))
    (λ a b. absurd (omega arith), λ a. absurd (omega arith))
    (λ a b. absurd (omega arith), λ a. absurd (omega arith))
    (λ a b. refl, λ a. absurd (omega arith))
    (λ a b. refl, λ a. absurd (omega arith))
    (λ a b. absurd (omega arith), λ a. refl)
    (λ a b. absurd (omega arith), λ a. refl)

-- 030 to 037, where d is c and a bit more
status-opcode : (c w b : ℕ) → w < 0x040 → field_s w ≡ 6 → c + b ≡ field_d w → 0x030 + c + b ≡ w
status-opcode c w b h s e = omega arith

-- what holds of each kind of instruction, with its fields in range
pub record OfEach (P : Instr → Type 0) : Type 0 where
  pub hlt : P Hlt
  pub control : (d : ℕ) → d < 8 → (d ≡ 0 → ⊥) → (d ≡ 4 → ⊥) → P (Control d)
  pub jump : P Jump
  pub single : (s d : ℕ) → s < 8 → (s ≡ 0 → ⊥) → (s ≡ 6 → ⊥) → d < 8 → P (Single s d)
  pub gswd : (d : ℕ) → d < 4 → P (Gswd d)
  pub nop : (n : ℕ) → n < 2 → P (Nop n)
  pub sin : (n : ℕ) → n < 2 → P (Sin n)
  pub shift : (s d : ℕ) → s < 8 → d < 8 → P (Shift s d)
  pub register : (row s d : ℕ) → 2 ≤ row → row < 8 → s < 8 → d < 8 → P (Register row s d)
  pub branch : (b : ℕ) → b < 64 → P (Branch b)
  pub store : (s d : ℕ) → s < 8 → d < 8 → P (Store s d)
  pub read : (row s d : ℕ) → 10 ≤ row → row < 16 → s < 8 → d < 8 → P (Read row s d)

-- .. holds of the instruction of an opcode, which has just those fields
module _ (P : ℕ → Instr → Type 0) (each : (w : ℕ) → OfEach (λ i. opcode_for i ≡ w → P w i)) where
  low : (w : ℕ) → w < 0x040 → P w (low_instruction (field_s w) (field_d w))
  unfolding low_instruction control_instruction status_instruction
  low w h =
      let e : OfEach (λ i. opcode_for i ≡ w → P w i) = each w in
      cond_either (P w) (eqb (field_s w) 0)
      (λ z.
      let s = eqb-true (field_s w) 0 z in
      cond_either (P w) (eqb (field_d w) 0) (λ y. let d = eqb-true (field_d w) 0 y in e.hlt (omega arith))
      (λ n0. cond_either (P w) (eqb (field_d w) 4) (λ y. let d = eqb-true (field_d w) 4 y in e.jump (omega arith))
      (λ n4. e.control (field_d w) (omega arith) (eqb-false (field_d w) 0 n0) (eqb-false (field_d w) 4 n4) (omega arith))))
      (λ n0. cond_either (P w) (eqb (field_s w) 6)
      (λ z.
      let s = eqb-true (field_s w) 6 z in
      cond_either (P w) (ltb (field_d w) 4) (λ y. let d = ltb-true (field_d w) 4 y in e.gswd (field_d w) d (omega arith))
      (λ g. let g4 = ltb-false (field_d w) 4 g in cond_either (P w) (ltb (field_d w) 6)
      (λ y. let d = ltb-true (field_d w) 6 y in e.nop (field_d w % 2) (omega arith) (status-opcode 4 w (field_d w % 2) h s ((bit-of (field_d w) (omega arith)).0 g4 d)))
      (λ y. let d = ltb-false (field_d w) 6 y in e.sin (field_d w % 2) (omega arith) (status-opcode 6 w (field_d w % 2) h s ((bit-of (field_d w) (omega arith)).1 d)))))
      (λ n6. e.single (field_s w) (field_d w) (omega arith) (eqb-false (field_s w) 0 n0) (eqb-false (field_s w) 6 n6) (omega arith) (omega arith)))

  pub by-opcode-at : (w : ℕ) → w < 1024 → P w (instruction_of w)
  unfolding instruction_of
  by-opcode-at w h =
      let e : OfEach (λ i. opcode_for i ≡ w → P w i) = each w in
      cond_either (P w) (ltb w 0x040) (λ z. low w (ltb-true w 0x040 z))
      (λ z. let a = ltb-false w 0x040 z in cond_either (P w) (ltb w 0x080) (λ y. let b = ltb-true w 0x080 y in e.shift (field_s w) (field_d w) (omega arith) (omega arith) (omega arith))
      (λ y. let b = ltb-false w 0x080 y in cond_either (P w) (ltb w 0x200) (λ x. let r = ltb-true w 0x200 x in e.register (w / 64 % 16) (field_s w) (field_d w) (omega arith) (omega arith) (omega arith) (omega arith) (omega arith))
      (λ x. let r = ltb-false w 0x200 x in cond_either (P w) (ltb w 0x240) (λ v. let t = ltb-true w 0x240 v in e.branch (w % 64) (omega arith) (omega arith))
      (λ v. let t = ltb-false w 0x240 v in cond_either (P w) (ltb w 0x280) (λ u. let k = ltb-true w 0x280 u in e.store (field_s w) (field_d w) (omega arith) (omega arith) (omega arith))
      (λ u. let k = ltb-false w 0x280 u in e.read (w / 64 % 16) (field_s w) (field_d w) (omega arith) (omega arith) (omega arith) (omega arith) (omega arith))))))

-- .. holds of the instruction of every opcode
pub by-opcode : (P : Instr → Type 0) → OfEach P → (w : ℕ) → w < 1024 → P (instruction_of w)
by-opcode P each =
    by-opcode-at (λ w i. P i)
    (λ w.
    record {
      hlt = λ e. each.hlt;
      control = λ d a b c e. each.control d a b c;
      jump = λ e. each.jump;
      single = λ s d a b c k e. each.single s d a b c k;
      gswd = λ d a e. each.gswd d a;
      nop = λ n a e. each.nop n a;
      sin = λ n a e. each.sin n a;
      shift = λ s d a b e. each.shift s d a b;
      register = λ row s d a b c k e. each.register row s d a b c k;
      branch = λ b a e. each.branch b a;
      store = λ s d a b e. each.store s d a b;
      read = λ row s d a b c k e. each.read row s d a b c k;
    })

pub opcodes-invert : OpcodesInvert
opcodes-invert =
    by-opcode-at (λ w i. opcode_for i ≡ w)
    (λ w.
    record {
      hlt = λ e. e;
      control = λ d a b c e. e;
      jump = λ e. e;
      single = λ s d a b c k e. e;
      gswd = λ d a e. e;
      nop = λ n a e. e;
      sin = λ n a e. e;
      shift = λ s d a b e. e;
      register = λ row s d a b c k e. e;
      branch = λ b a e. e;
      store = λ s d a b e. e;
      read = λ row s d a b c k e. e;
    })
