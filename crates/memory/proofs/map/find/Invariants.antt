use Rattle.std.proofs.Common.{◌≡◌, drop}
use Rattle.memory.specs.Map.{ranges_of, deciding}
use Rattle.memory.proofs.map.find.Given as goal

-- the ranges that are left decide as all do
abbrev pub invariant-loop-range : goal.invariant-loop-range
invariant-loop-range l = deciding (drop l.range-index l.range-items) l.address ≡ deciding (ranges_of l.fn.board) l.address
