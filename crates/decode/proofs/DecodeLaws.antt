-- What the decoder tells, and which words it reads.
use Prim.Native.Nat.{ℕ, ◌%◌, ◌<◌}
use mathlib.Core.Path.{◌≡◌, refl, ap, sym, subst, ◌∙◌}
use mathlib.Core.Bool.{Bool, true, false, cond, ◌&&◌}
use mathlib.Core.List.{[], ◌∷◌}
use native.Mathlib.Omega.{arith}
use lib.Dec.{eqb, leb}
use borrow.Author.Tests.{ne_eqb, lt-leb, le-leb}
use Rattle.word.specs.Word.{wrap_add}
use Rattle.word.proofs.Choice.{cond-true, cond-false, cond_either}
use Rattle.memory.specs.Bus.{Bus, read_of}
use Rattle.memory.specs.Laws.{AgreeAt}
use Rattle.decode.specs.declared.Instr.{Instr}
use Rattle.std.proofs.Common.{Option, None, Some}
use Rattle.decode.specs.Fields.{opcode_of, field_s}
use Rattle.decode.specs.Decode.{instruction_of, is_unspecified, unspecified_form, specified, decode_at, decode_words}
use Rattle.decode.specs.Rows.{row_of}
use Rattle.decode.specs.Reads.{decoding_reads}
use Rattle.decode.specs.Laws.{known, Decodes, DecodesInSteps, InRange, DecodesInRange, DecodingIsLocal}
use Rattle.decode.proofs.OpcodeLaws.{opcodes-invert, OfEach, by-opcode, by-opcode-at}

pub known_is : (t : Bool) (i k : Instr) → cond t None (Some k) ≡ Some i → k ≡ i
known_is true i k e = let z : ◌≡◌ {A = ℕ} 0 1 = cc in absurd (omega arith)
known_is false i k e = cc

and-false : (b : Bool) → (b && false) ≡ false
and-false true = refl
and-false false = refl

module _ (read : ℕ → ℕ) (at : ℕ) (double : Bool) where
  pub decodes-unspecified : is_unspecified read at (opcode_of (read at)) double ≡ true → Decodes read at double None
  unfolding decode_at
  decodes-unspecified e = record { instruction = sym (cond-true _ _ e); tells = sym (cond-true _ _ e) }

  pub decodes-known : is_unspecified read at (opcode_of (read at)) double ≡ false → Decodes read at double (Some (instruction_of (opcode_of (read at))))
  unfolding decode_at
  decodes-known e =
      let w : ℕ = opcode_of (read at) in
      record {
        instruction = sym (cond-false _ _ e);
        tells = ap (λ (n : ℕ). known n (row_of (instruction_of w) double)) (opcodes-invert w (omega arith)) ∙ sym (cond-false _ _ e);
      }

  -- the forms as the code tells them, by the instruction
  form-is : (w : ℕ) → w < 1024 → unspecified_form read at (instruction_of w) double ≡ is_unspecified read at w double
  unfolding is_unspecified
  form-is =
      by-opcode-at (λ w i. unspecified_form read at i double ≡ is_unspecified read at w double)
      (λ w.
      let none : (h : w ≡ 0x004 → ⊥) → (leb 0x280 w && eqb (field_s w) 6) ≡ false → false ≡ is_unspecified read at w double =
      λ h z. rw (ne_eqb w 0x004 h, z) (sym (and-false double)) in
      let low : (h : w ≡ 0x004 → ⊥) → w < 0x280 → false ≡ is_unspecified read at w double = λ h l. none h (rw (lt-leb 0x280 w l)) in
      record {
        hlt = λ e. low (λ z. omega arith) (omega arith);
        control = λ d a b c e. low (λ z. c (e ∙ z)) (omega arith);
        jump = λ e. rw (← e);
        single = λ s d a b c k e. low (λ z. omega arith) (omega arith);
        gswd = λ d a e. low (λ z. omega arith) (omega arith);
        nop = λ n a e. low (λ z. omega arith) (omega arith);
        sin = λ n a e. low (λ z. omega arith) (omega arith);
        shift = λ s d a b e. low (λ z. omega arith) (omega arith);
        register = λ row s d a b c k e. low (λ z. omega arith) (omega arith);
        branch = λ b a e. low (λ z. omega arith) (omega arith);
        store = λ s d a b e. low (λ z. omega arith) (omega arith);
        read = λ row s d a b c k e. let f : field_s w ≡ s = omega arith in rw (ne_eqb w 0x004 (λ z. omega arith), le-leb 0x280 w (omega arith), f);
      })

  -- the instruction of the opcode and then its form, which is the decoding
  in-steps : specified read at (instruction_of (opcode_of (read at))) double ≡ decode_at read at double
  unfolding specified decode_at
  in-steps = ap (λ (t : Bool). cond t None (Some (instruction_of (opcode_of (read at))))) (form-is (opcode_of (read at)) (omega arith))

  pub decodes : Decodes read at double (specified read at (instruction_of (opcode_of (read at))) double)
  unfolding specified
  decodes =
      cond_either (Decodes read at double) (unspecified_form read at (instruction_of (opcode_of (read at))) double)
      (λ e. decodes-unspecified (sym (form-is (opcode_of (read at)) (omega arith)) ∙ e))
      (λ e. decodes-known (sym (form-is (opcode_of (read at)) (omega arith)) ∙ e))

-- with D clear the jump's second word alone counts
clear-form : (t u : Bool) → (t && u) ≡ cond t u false
clear-form true u = refl
clear-form false u = refl

of_words : (read : ℕ → ℕ) (at : ℕ) → decode_words (read at) (read (wrap_add at 1)) ≡ decode_at read at false
unfolding decode_words decode_at is_unspecified
of_words read at =
    let w : ℕ = opcode_of (read at) in
    ap (λ (t : Bool). cond t None (Some (instruction_of w))) (clear-form (eqb w 0x004) (eqb (read (wrap_add at 1) % 4) 3))

pub decodes-in-steps : DecodesInSteps
decodes-in-steps = record { forms = form-is; steps = in-steps; words = of_words }

pub each-in-range : OfEach InRange
each-in-range =
    record {
      hlt = tt;
      control = λ d a b c. (a, b, c);
      jump = tt;
      single = λ s d a b c k. (a, b, c, k);
      gswd = λ d a. a;
      nop = λ n a. a;
      sin = λ n a. a;
      shift = λ s d a b. (a, b);
      register = λ row s d a b c k. (a, b, c, k);
      branch = λ b a. a;
      store = λ s d a b. (a, b);
      read = λ row s d a b c k. (a, b, c, k);
    }

pub decodes-in-range : DecodesInRange
unfolding decode_at
decodes-in-range read at double i e =
    let w : ℕ = opcode_of (read at) in
    subst InRange (known_is (is_unspecified read at w double) i (instruction_of w) e) (by-opcode InRange each-in-range w (omega arith))

-- the jump's second word is looked at only where the opcode is the jump's
jump-second : (f : ℕ → Bool) (w x y : ℕ) (z : Bool) → (eqb w 0x004 ≡ true → x ≡ y) → cond (eqb w 0x004) (f x) z ≡ cond (eqb w 0x004) (f y) z
jump-second f w x y z h = go (eqb w 0x004) h
  where
    go : (t : Bool) → (t ≡ true → x ≡ y) → cond t (f x) z ≡ cond t (f y) z
    go true g = ap f (g refl)
    go false g = refl

second-agrees : (b c : Bus) (at : ℕ) (t : Bool) → AgreeAt (cond t (wrap_add at 1 ∷ []) []) b c → t ≡ true → read_of b (wrap_add at 1) ≡ read_of c (wrap_add at 1)
second-agrees b c at true h e = h.0
second-agrees b c at false h e = absurd (mathlib.Core.Bool.true≢false (sym e))

pub decoding-is-local : DecodingIsLocal
unfolding decoding_reads decode_at is_unspecified
decoding-is-local b c at double h =
    let w : ℕ = opcode_of (read_of b at) in
    let decoded : Bool → ℕ → Option Instr = λ t n. cond t None (Some (instruction_of n)) in
    let stack : ℕ → Bool = λ n. double && (leb 0x280 n && eqb (field_s n) 6) in
    ap (λ (t : Bool). decoded t w) (jump-second (λ x. eqb (x % 4) 3) w (read_of b (wrap_add at 1)) (read_of c (wrap_add at 1)) (stack w) (second-agrees b c at (eqb w 0x004) h.1))
    ∙ ap (λ (v : ℕ). decoded (cond (eqb (opcode_of v) 0x004) (eqb (read_of c (wrap_add at 1) % 4) 3) (stack (opcode_of v))) (opcode_of v)) h.0
