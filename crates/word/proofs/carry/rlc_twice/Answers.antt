use Rattle.std.proofs.Common.{true, refl, rules}
use Rattle.word.specs.Flags.{with_sign}
use Rattle.word.specs.Shifts.{rlc_twice, shift_twice, shift_of}
use Rattle.word.specs.ThroughCarry.{rlc_row}
use Rattle.word.specs.Inner.Bits.{bits_of}
use Rattle.word.proofs.ThroughCarry.{written}
use Rattle.word.proofs.carry.rlc_twice.Goals as goal

pub returns : goal.returns
unfolding rlc_twice shift_twice shift_of with_sign bits_of
returns c =
    rw (c.with_sign.ensures, c.taken_apart-old.ensures)
    (written rlc_row true c.args.f (search rules) (search rules) refl refl)
