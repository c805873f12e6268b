-- The rule of a call: what holds of its refusals and of its successes holds of the call.
use Prim.Native.Nat.{ℕ}
use mathlib.Core.Path.{◌≡◌, refl, sym, subst}
use mathlib.Core.Bool.{true, false}
use Rattle.refusal.specs.Report.{Report, refused, answered}
use Rattle.refusal.proofs.ReportLaws.{no_answer, same_answer}
use Rattle.word.proofs.Choice.{cond_both}
use Rattle.cp1610.specs.Answers.{is_refusal}
use Rattle.cp1610.specs.Called.{Called, called, CallRule, by_report, call_by}
use Rattle.cp1610.proofs.AnswerLaws.{no-refusal}

-- what a definition reports: its refusal is below the kinds, and `kept`; its answer is what `holds` says
abbrev pub Told : {A : Type 0} → Type 0 → (A → Type 0) → Report A → Type 0
Told kept holds (refused n) = (is_refusal n ≡ true) × kept
Told kept holds (answered x) = holds x

module _ {A : Type 0} (kept : Type 0) (holds : A → Type 0) where
  pub kept_by : (r : Report A) {n : ℕ} → Told kept holds r → r ≡ refused n → kept
  kept_by (refused k) t e = t.1
  kept_by (answered x) t e = no_answer (sym e)

  pub held_by : (r : Report A) {x : A} → Told kept holds r → r ≡ answered x → holds x
  held_by (refused k) t e = no_answer e
  held_by (answered y) t e = subst holds (same_answer e) t

  -- a call that no short buffer stops
  pub by-told : (rule : CallRule A) (P : Report A → Called → Type 0) →
      rule.short ≡ false →
      Told kept holds rule.report →
      ((n : ℕ) → is_refusal n ≡ true → kept → P (refused n) (called n rule.before)) →
      ((x : A) → holds x → P (answered x) (rule.success x)) →
      P rule.report (call_by rule)
  by-told rule P long t refuses succeeds = rw long (go rule.report t)
    where
      go : (r : Report A) → Told kept holds r → P r (by_report rule.before rule.success r)
      go (refused n) u = refuses n u.0 u.1
      go (answered x) u = succeeds x u

-- a refused call leaves what it was lent, where no success is below the kinds
pub refused-keeps : {A : Type 0} (rule : CallRule A) →
    ((x : A) → rule.report ≡ answered x → is_refusal (rule.success x).result ≡ false) →
    is_refusal (call_by rule).result ≡ true →
    (call_by rule).lent ≡ rule.before
refused-keeps {A} rule high = cond_both Keeps rule.short (λ e. refl) (go rule.report refl)
  where
    Keeps : Called → Type 0
    Keeps c = is_refusal c.result ≡ true → c.lent ≡ rule.before

    go : (r : Report A) → rule.report ≡ r → Keeps (by_report rule.before rule.success r)
    go (refused n) q = λ e. refl
    go (answered x) q = no-refusal (rule.success x).result (high x q)
