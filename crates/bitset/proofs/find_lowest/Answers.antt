-- `find_lowest`: the words before word i have no members.
use Prim.Native.Nat.{ℕ, ◌+◌, ◌*◌, ◌^◌, ◌<◌}
use mathlib.Core.Path.{sym, ap, ◌∙◌}
use native.Mathlib.Omega.{arith}
use lib.ListN.{get_or}
use lib.Count.{count_trailing_zeros}
use Rattle.bitset.specs.Bits.{contains, none, lowest_at, lowest_below}
use Rattle.bitset.proofs.LowestLaws.{lowest-laws, lowest-in-word, none-in-word}
use Rattle.bitset.proofs.find_lowest.Goals as goal

pub returns-then-word-ne0 : goal.returns-then-word-ne0
returns-then-word-ne0 c =
    let words = c.args.words.now in
    let i = c.loop-i.i in
    let e = c.word_at-word.ensures in
    let h : get_or words i 0 < 2 ^ 64 = omega (arith, c.type_inv.words i) in
    let l = lowest-in-word words i c.loop-i-test.true h (omega (arith, e, c.if-word-ne0.true)) c.loop-i.invariant in
    ap (λ (w : ℕ). lowest_at (64 * i + count_trailing_zeros 64 w)) e
    ∙ lowest-laws.only (contains words) 65536 (lowest_at (64 * i + count_trailing_zeros 64 (get_or words i 0))) (lowest_below (contains words) 65536) l
    (lowest-laws.is_lowest (contains words) 65536)

pub loop-i-preserved : goal.loop-i-preserved
loop-i-preserved c = none-in-word c.args.words.now c.loop-i.i (sym c.word_at-word.ensures ∙ c.if-word-ne0.false) c.loop-i.invariant

pub returns : goal.returns
returns c =
    let words = c.args.words.now in
    lowest-laws.only (contains words) 65536 none (lowest_below (contains words) 65536) (λ a p. c.loop-i.invariant a (omega arith)) (lowest-laws.is_lowest (contains words) 65536)
