-- The calls of the wait meter at limit 0: what the meter answers there it answers at 48.
use mathlib.Core.Path.{ap}
use Rattle.refusal.specs.Report.{Report}
use Rattle.meter.specs.Answer.{Named}
use Rattle.meter.proofs.LimitLaws.{zero-means-48}
use Rattle.cp1610.specs.MapWords.{on_map}
use Rattle.cp1610.specs.Called.{call_by}
use Rattle.cp1610.specs.MeterCall.{named_call, wait_call, region_call, region_reached_call}
use Rattle.cp1610.specs.Laws.{CallsAtZero}

pub calls-at-zero : CallsAtZero
unfolding wait_call region_call region_reached_call
calls-at-zero =
    record {
      wait = λ mem map address. rw (zero-means-48.waits (on_map map mem) address);
      region = λ mem map first last out. ap (λ (r : Report Named). call_by (named_call map out r)) (zero-means-48.regions (on_map map mem) first last);
      region_reached = λ mem map first last clear set out. ap (λ (r : Report Named). call_by (named_call map out r)) (zero-means-48.reached (on_map map mem) first last clear set);
    }
