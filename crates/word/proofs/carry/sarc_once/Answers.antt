use Rattle.std.proofs.Common.{false, refl, rules}
use Rattle.word.specs.Shifts.{with_low_sign, sarc_once, shift_once, shift_of}
use Rattle.word.specs.ThroughCarry.{sarc_row}
use Rattle.word.specs.Inner.Bits.{bits_of}
use Rattle.word.proofs.ThroughCarry.{written}
use Rattle.word.proofs.carry.sarc_once.Goals as goal

pub returns : goal.returns
unfolding sarc_once shift_once shift_of with_low_sign bits_of
returns c =
    rw (c.with_low_sign.ensures, c.taken_apart-old.ensures)
    (written sarc_row false c.args.f (search rules) (search rules) refl refl)
