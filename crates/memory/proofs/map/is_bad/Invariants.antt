use Rattle.std.proofs.Common.{◌≡◌, drop}
use Rattle.memory.specs.Map.{ranges_of, any_reversed}
use Rattle.memory.proofs.map.is_bad.Given as goal

-- one of the ranges that are left is reversed if one of all is
abbrev pub invariant-loop-range : goal.invariant-loop-range
invariant-loop-range l = any_reversed (drop l.range-index l.range-items) ≡ any_reversed (ranges_of l.fn.board)
