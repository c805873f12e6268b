use Rattle.std.proofs.Common.{true, refl, rules}
use Rattle.word.specs.Shifts.{with_low_sign, sarc_twice, shift_twice, shift_of}
use Rattle.word.specs.ThroughCarry.{sarc_row}
use Rattle.word.specs.Inner.Bits.{bits_of}
use Rattle.word.proofs.ThroughCarry.{written}
use Rattle.word.proofs.carry.sarc_twice.Goals as goal

pub returns : goal.returns
unfolding sarc_twice shift_twice shift_of with_low_sign bits_of
returns c =
    rw (c.with_low_sign.ensures, c.taken_apart-old.ensures)
    (written sarc_row true c.args.f (search rules) (search rules) refl refl)
