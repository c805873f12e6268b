-- All RAM is the base, crate by crate.
use Rattle.cpu.proofs.AllRamLaws.{all-ram-steps}
use Rattle.run.proofs.AllRamLaws.{all-ram-runs}
use Rattle.meter.proofs.AllRamLaws.{all-ram-meter}
use Rattle.listing.proofs.AllRam.{all-ram-lists}
use Rattle.guarantees.specs.AllRam.{AllRamIsTheBase}

pub all-ram-is-the-base : AllRamIsTheBase
all-ram-is-the-base = record { steps = all-ram-steps; runs = all-ram-runs; meters = all-ram-meter; lists = all-ram-lists }
