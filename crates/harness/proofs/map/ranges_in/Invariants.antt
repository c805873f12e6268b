use Rattle.std.proofs.Common.{◌≡◌, ◌-◌, ◌++◌, length, take}
use Rattle.harness.specs.Maps.{ranges_written}
use Rattle.harness.proofs.map.ranges_in.Given as goal

abbrev pub invariant-loop-i : goal.invariant-loop-i
invariant-loop-i l =
    (length l.ranges ≡ 16) × (take l.i l.ranges ++ ranges_written (16 - l.i) l.rest ≡ ranges_written 16 l.list)
