use Rattle.std.proofs.Common.{false, refl, rules}
use Rattle.word.specs.Shifts.{with_low_sign, rrc_once, shift_once, shift_of}
use Rattle.word.specs.ThroughCarry.{rrc_row}
use Rattle.word.specs.Inner.Bits.{bits_of}
use Rattle.word.proofs.ThroughCarry.{written}
use Rattle.word.proofs.carry.rrc_once.Goals as goal

pub returns : goal.returns
unfolding rrc_once shift_once shift_of with_low_sign bits_of
returns c =
    rw (c.with_low_sign.ensures, c.taken_apart-old.ensures)
    (written rrc_row false c.args.f (search rules) (search rules) refl refl)
