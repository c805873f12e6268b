use Rattle.std.proofs.Common.{true, refl, rules}
use Rattle.word.specs.Flags.{with_sign}
use Rattle.word.specs.Shifts.{sllc_twice, shift_twice, shift_of}
use Rattle.word.specs.ThroughCarry.{sllc_row}
use Rattle.word.specs.Inner.Bits.{bits_of}
use Rattle.word.proofs.ThroughCarry.{written}
use Rattle.word.proofs.carry.sllc_twice.Goals as goal

pub returns : goal.returns
unfolding sllc_twice shift_twice shift_of with_sign bits_of
returns c =
    rw (c.with_sign.ensures, c.taken_apart-old.ensures)
    (written sllc_row true c.args.f (search rules) (search rules) refl refl)
