use Prim.Native.Nat.{◌*◌}
use mathlib.Core.Path.{◌≡◌}
use Rattle.bitset.specs.Bits.{in_either, count_below}
use Rattle.bitset.proofs.count_either.Given as goal

abbrev pub invariant-loop-i : goal.invariant-loop-i
invariant-loop-i l = l.count ≡ count_below (in_either l.one l.other) (64 * l.i)
