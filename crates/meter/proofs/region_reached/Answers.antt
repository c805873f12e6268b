-- `region_reached` refuses in the definition's order, and else has its members scanned.
use mathlib.Core.Path.{refl, sym}
use borrow.Author.Rules.{rules}
use Rattle.std.proofs.lemmas.Result.{err_from_is_err_and}
use Rattle.memory.proofs.BusLaws.{unless-out}
use Rattle.meter.specs.Meter.{region_reached_of}
use Rattle.meter.proofs.RegionLaws.{reached-end, reached-wrong}
use Rattle.meter.proofs.region_reached.Goals as goal
use Rattle.meter.proofs.region_reached.Goals.{then-clear-ne-WORDS, else-clear-ne-WORDS}

pub returns-in_err-region : goal.returns-in_err-region
unfolding region_reached_of
returns-in_err-region c =
    let p = err_from_is_err_and c.from_residual.result c.from_residual.ensures.1 in
    rw (p.1, p.2) (sym (unless-out _ _ c.in_err-region.ensures))

pub returns-then-wrong_length : goal.returns-then-wrong_length
returns-then-wrong_length c =
    reached-wrong _ _ _ _ _ _ c.in_ok-region.ensures.0
    (elim c.if-clear-ne-WORDS.branch [
      | then-clear-ne-WORDS w ↦ search rules
      | else-clear-ne-WORDS w ↦ search rules
    ])

pub returns : goal.returns
returns c =
    let k = c.in_ok-region.ensures in
    reached-end _ _ _ _ _ _ refl (rw (k.1, k.2, k.3) at c.members.ensures) k.0
    (elim c.if-clear-ne-WORDS.branch [
      | then-clear-ne-WORDS w ↦ search rules
      | else-clear-ne-WORDS w ↦ search rules
    ])
    (elim c.if-clear-ne-WORDS.branch [
      | then-clear-ne-WORDS w ↦ search rules
      | else-clear-ne-WORDS w ↦ search rules
    ])
