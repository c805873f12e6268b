-- `agree_status`: each mark is compared, and a record is what its fields are.
use Rattle.std.proofs.Common.{◌≡◌, Bool, true, false, ◌&&◌, ◌↔◌, refl}
use mathlib.Core.Bool.{beq, and-eq-true_iff}
use mathlib.Core.Logic.Iff
use Rattle.harness.proofs.machine.agree_status.Goals as goal

compared : {r : Bool} (a b : Bool) → r ≡ beq a b → (r ≡ true) ↔ a ≡ b
compared true true e = (λ p. cc, λ q. cc)
compared true false e = (λ p. cc, λ q. cc)
compared false true e = (λ p. cc, λ q. cc)
compared false false e = (λ p. cc, λ q. cc)

infixl 3 ◌and◌
◌and◌ : {x y : Bool} {P Q : Type 0} → (x ≡ true) ↔ P → (y ≡ true) ↔ Q → ((x && y) ≡ true) ↔ (P × Q)
f and g = Iff.trans (and-eq-true_iff _ _) (Iff.and f g)

pub returns : goal.returns
returns g c =
    let a = c.args.left in
    let b = c.args.expected in
    Iff.trans
    (compared a.s b.s c.agree.ensures
    and compared a.z b.z c.agree-2.ensures
    and compared a.o b.o c.agree-3.ensures
    and compared a.c b.c c.agree-4.ensures
    and compared a.i b.i c.agree-5.ensures
    and compared a.d b.d c.agree-6.ensures
    and compared a.halted b.halted c.agree-7.ensures
    and compared a.ready b.ready c.agree-8.ensures
    and compared a.level b.level c.agree-9.ensures
    and compared a.pending b.pending c.agree-10.ensures) (
      λ (((((((((s, z), o), c), i), d), halted), ready), level), pending) k.
          record { s = s k; z = z k; o = o k; c = c k; i = i k; d = d k; halted = halted k; ready = ready k; level = level k; pending = pending k },
      λ q. rw q (((((((((refl, refl), refl), refl), refl), refl), refl), refl), refl), refl),
    )
