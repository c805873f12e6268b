use Prim.Native.Nat.{ℕ, ◌+◌, ◌*◌, ◌<◌, ◌^◌}
use mathlib.Core.Path.{◌≡◌, refl, ap, ◌∙◌}
use native.Mathlib.Omega.{arith}
use lib.ListN.{get_or}
use lib.Bits.{bit_or}
use lib.Count.{ones}
use Rattle.bitset.specs.Bits.{in_either, count_below}
use Rattle.bitset.proofs.CountLaws.{count_most, count_word}
use Rattle.bitset.proofs.count_either.Goals as goal
use Rattle.bitset.proofs.count_either.Goals.{After-word_at-in-loop-i}

pub loop-i-init : goal.loop-i-init
unfolding count_below
loop-i-init c = refl

-- the count with one word more of each set
more : (c : After-word_at-in-loop-i) → c.loop-i.count + ones (bit_or c.word_at.result c.word_at-in-loop-i.result) ≡ count_below (in_either c.args.one.now c.args.other.now) (64 * c.loop-i.i + 64)
more c =
    let a = c.args in
    let i = c.loop-i.i in
    let p : get_or a.one.now i 0 < 2 ^ 64 = omega (arith, c.type_inv.one i) in
    let q : get_or a.other.now i 0 < 2 ^ 64 = omega (arith, c.type_inv.other i) in
    rw (count_word a.one.now a.other.now i p q, c.word_at.ensures, c.word_at-in-loop-i.ensures, c.loop-i.invariant)

pub overflow_add-count : goal.overflow_add-count
overflow_add-count c = omega (arith, more (goal.at.overflow_add-count c).After-word_at-in-loop-i, count_most (in_either c.args.one.now c.args.other.now) (64 * c.loop-i.i + 64))

pub loop-i-preserved : goal.loop-i-preserved
loop-i-preserved c = let e : 64 * (c.loop-i.i + 1) ≡ 64 * c.loop-i.i + 64 = omega arith in
    rw e (more (goal.at.loop-i-preserved c).After-word_at-in-loop-i)

pub returns : goal.returns
returns c = let e : c.loop-i.i ≡ 1024 = omega arith in
    c.loop-i.invariant ∙ ap (λ (n : ℕ). count_below (in_either c.args.one.now c.args.other.now) (64 * n)) e
