use Rattle.std.proofs.Common.{false, refl, rules}
use Rattle.word.specs.Flags.{with_sign}
use Rattle.word.specs.Shifts.{rlc_once, shift_once, shift_of}
use Rattle.word.specs.ThroughCarry.{rlc_row}
use Rattle.word.specs.Inner.Bits.{bits_of}
use Rattle.word.proofs.ThroughCarry.{written}
use Rattle.word.proofs.carry.rlc_once.Goals as goal

pub returns : goal.returns
unfolding rlc_once shift_once shift_of with_sign bits_of
returns c =
    rw (c.with_sign.ensures, c.taken_apart-old.ensures)
    (written rlc_row false c.args.f (search rules) (search rules) refl refl)
