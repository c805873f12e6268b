-- `cp1610_write`: the writer's word is the result; the file is no longer than the room.
use native.Mathlib.Omega.{arith}
use lib.ListN.{length}
use Rattle.cp1610.specs.ImageCall.{write_call}
use Rattle.cp1610.proofs.ReportLaws.{told-writing}
use Rattle.cp1610.proofs.EndLaws.{load-ends, load_low, counts-alike}
use Rattle.cp1610.proofs.cp1610_write.Goals as goal

pub count_word-requires : goal.count_word-requires
count_word-requires c =
    let a = c.args in
    rw counts-alike (load_low a.room.now c.write.new.room (length a.room.now) _ (told-writing a.board a.mem.now a.first a.last a.room.now c.write.ensures) (omega arith))

pub returns : goal.returns
unfolding write_call
returns c =
    let a = c.args in
    let e = c.write.ensures in
    rw (← e, c.count_word.ensures, counts-alike) (load-ends a.room.now c.write.new.room (length a.room.now) _ (told-writing a.board a.mem.now a.first a.last a.room.now e))
