-- Reports: a refusal and an answer are never alike, and each gives back what it was made of.
use Rattle.std.specs.Prelude.{ℕ, Ok, Err}
use mathlib.Core.Path.{◌≡◌, ap, sym, ◌∙◌}
use Rattle.refusal.specs.declared.Refusal.{Refusal}
use Rattle.refusal.specs.Refusals.{refusal_number, reported}
use Rattle.refusal.specs.Report.{Report, refused, answered, OneToOne}
use Rattle.refusal.proofs.Laws.{numbers_apart}

pub no_answer : {A C : Type 0} {n : ℕ} {x : A} → refused n ≡ answered x → C
no_answer e = cc

pub same_answer : {A : Type 0} {x y : A} → answered x ≡ answered y → x ≡ y
same_answer e = cc

pub same-refusal : {A : Type 0} (a b : Refusal) → ◌≡◌ {A = Report A} (refused (refusal_number a)) (refused (refusal_number b)) → a ≡ b
same-refusal a b e = let n : refusal_number a ≡ refusal_number b = cc in numbers_apart a b n

-- results are told apart where their answers are
pub reported-apart : {A B : Type 0} (tells : A → B) → OneToOne tells → OneToOne (reported tells)
reported-apart tells h (Err a) (Err b) e = ap Err (same-refusal a b e)
reported-apart tells h (Err a) (Ok y) e = no_answer e
reported-apart tells h (Ok x) (Err b) e = no_answer (sym e)
reported-apart tells h (Ok x) (Ok y) e = ap Ok (h x y (same_answer e))

-- what can be read back is told one-to-one
pub told-apart : {A B : Type 0} (tells : A → B) (back : B → A) → ((a : A) → back (tells a) ≡ a) → OneToOne tells
told-apart tells back h a b e = sym (h a) ∙ ap back e ∙ h b
