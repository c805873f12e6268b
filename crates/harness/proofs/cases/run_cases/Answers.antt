-- `run_cases`: the cases that were counted and those that are left are all, and each was judged.
use Rattle.std.proofs.Common.{◌≡◌, ℕ, ◌+◌, ◌*◌, ◌/◌, ◌%◌, ◌^◌, ◌<◌, Bool, length, refl, sym, ap, ◌∙◌, arith}
use Rattle.std.proofs.Math.Nat.{div-add-mod, add-mul-mod_self_left}
use Rattle.harness.specs.declared.tally.Tally.{Tally}
use Rattle.harness.specs.Tally.{counted_of}
use Rattle.harness.specs.Cases.{cases_left}
use Rattle.harness.proofs.cases.run_cases.Goals as goal

one_more : (n m w : ℕ) → ((n + 1) % w + m) % w ≡ (n + (m + 1)) % w
one_more n m w =
    let e : n + (m + 1) ≡ ((n + 1) % w + m) + w * ((n + 1) / w) = omega (arith, div-add-mod (n + 1) w) in
    rw e (sym (add-mul-mod_self_left ((n + 1) % w + m) w ((n + 1) / w)))

counted :
    (t u : Tally) (well : Bool) (m : ℕ) →
    u ≡ counted_of t well →
    (u.cases < 2 ^ 64) × ((u.cases + m) % 2 ^ 64 ≡ (t.cases + (m + 1)) % 2 ^ 64)
unfolding counted_of
counted t u well m e = rw e (omega arith, one_more t.cases m (2 ^ 64))

pub loop-case-preserved : goal.loop-case-preserved
loop-case-preserved g c =
    let k = c.loop-case in
    let steps = c.in-Some.ensures.steps in
    let left : length (cases_left k.case-iterator) ≡ length (cases_left c.next.new.self) + 1 = omega (arith, ap length steps) in
    let more = counted k.tally c.close.new.self _ (length (cases_left c.next.new.self)) c.close.ensures in (
      more.0,
      more.1 ∙ ap (λ n. (k.tally.cases + n) % 2 ^ 64) (sym left) ∙ k.invariant.1,
      λ last tally rest. k.invariant.2 last tally (rw steps (_, (_, _, refl, c.is_well.ensures, c.close.ensures), rest)),
    )
