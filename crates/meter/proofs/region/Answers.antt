-- `region`: one stretch from first to last, by the word of which every bit is set.
use mathlib.Core.Path.{refl, sym}
use native.Mathlib.Omega.{arith}
use Rattle.std.proofs.lemmas.Result.{err_from_is_err_and}
use Rattle.memory.proofs.BusLaws.{unless-out}
use Rattle.meter.specs.Meter.{named_of, every_address, region_of}
use Rattle.meter.proofs.RegionLaws.{region-end}
use Rattle.meter.proofs.StretchLaws.{every-start, named_none}
use Rattle.meter.proofs.region.Goals as goal

pub returns-in_err-region : goal.returns-in_err-region
unfolding region_of
returns-in_err-region c =
    let p = err_from_is_err_and c.from_residual.result c.from_residual.ensures.1 in
    rw (p.1, p.2) (sym (unless-out _ _ c.in_err-region.ensures))

pub returns : goal.returns
unfolding named_of
returns c =
    let k = c.in_ok-region.ensures in
    region-end _ _ _ _ refl
    (rw (k.1, k.2, k.3) at
    (c.stretch.ensures every_address c.in_ok-region.region.first (omega arith) (λ a p q. sym (every-start a)) (rw (c.default.ensures.0, c.default.ensures.1) (named_none _ _ _))))
    k.0
