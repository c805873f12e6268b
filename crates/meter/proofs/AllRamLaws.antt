-- The meter under an all-RAM map: refused alike, and where it is let in, it reads alike.
use Rattle.std.specs.Prelude.{Ok}
use Prim.Native.Nat.{ℕ}
use mathlib.Core.Path.{◌≡◌, ap}
use mathlib.Core.List.{List}
use Rattle.memory.specs.declared.map.Board.{Board}
use Rattle.memory.specs.Bus.{bus_of, bus_on, admission_of}
use Rattle.memory.specs.Laws.{AllRam}
use Rattle.memory.proofs.AllRamLaws.{all-ram-laws}
use Rattle.meter.specs.Walk.{limit_of, walk_from}
use Rattle.meter.specs.Meter.{answer_from, wait_of, scan_admission, region_of, region_reached_of}
use Rattle.meter.specs.AllRam.{AllRamMeter}
use Rattle.meter.proofs.RegionLaws.{unless-same, region-in}

module _ (b : Board) (m : List ℕ) (h : AllRam b) where
  -- once let in, each start's walk answers the same
  answers : (limit : ℕ) → admission_of (bus_of m) ≡ Ok (tt {0}) → answer_from (bus_on b m) limit ≡ answer_from (bus_of m) limit
  answers limit e = ap (λ (read : ℕ → ℕ). walk_from read (limit_of limit)) (all-ram-laws.reads b m h e)

  waits : (a limit : ℕ) → wait_of (bus_on b m) a limit ≡ wait_of (bus_of m) a limit
  unfolding wait_of
  waits a limit = unless-same (admission_of (bus_of m)) _ _ _ (all-ram-laws.admits b m h) (λ e. rw (answers limit e))

  -- a region is let in alike, and then what holds of its bus is known
  module _ (first last limit : ℕ) where
    lets_in : scan_admission (bus_on b m) first last limit ≡ scan_admission (bus_of m) first last limit
    unfolding scan_admission
    lets_in = rw (all-ram-laws.admits b m h)

    let-in : scan_admission (bus_of m) first last limit ≡ Ok (tt {0}) → answer_from (bus_on b m) limit ≡ answer_from (bus_of m) limit
    let-in e = answers limit (region-in (bus_of m) first last limit e).admitted

    regions : region_of (bus_on b m) first last limit ≡ region_of (bus_of m) first last limit
    unfolding region_of
    regions = unless-same (scan_admission (bus_of m) first last limit) _ _ _ lets_in (λ e. rw (let-in e))

    reached : (clear set : List ℕ) → region_reached_of (bus_on b m) first last limit clear set ≡ region_reached_of (bus_of m) first last limit clear set
    unfolding region_reached_of
    reached clear set = unless-same (scan_admission (bus_of m) first last limit) _ _ _ lets_in (λ e. rw (let-in e))

pub all-ram-meter : AllRamMeter
all-ram-meter = record { waits = waits; regions = regions; reached = reached }
