-- `region_word`: what the region names is put into `out`.
use Rattle.std.proofs.Common.{append_assoc}
use Rattle.cp1610.specs.MeterCall.{region_words}
use Rattle.cp1610.proofs.meter_words.region_word.Goals as goal

pub returns-in-Ok : goal.returns-in-Ok
unfolding region_words
returns-in-Ok c = rw (c.success.ensures, c.put.ensures, c.region_words.ensures, c.in-Ok.is, append_assoc)
