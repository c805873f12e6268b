-- Mark, address, count and words stand one behind the other, and fill the room.
use lib.ListN.{length}
use Rattle.image.specs.Format.{at_mark}
use Rattle.image.proofs.EmitLaws.{record-put, record-sums}
use Rattle.image.proofs.emit.put_record.Goals as goal

pub returns : goal.returns
returns c =
    let a = c.args in
    let h = c.requires.1 in
    let e1 = c.put_word.ensures in
    let e2 = c.put_word-2.ensures in
    let e3 = c.put_word-3.ensures in
    let put = c.put_words-sum.ensures in (
      record-put a.room.now at_mark a.address (length a.words.now) a.words.now h e1 e2 e3 put.0,
      record-sums a.room.now at_mark a.address (length a.words.now) a.words.now h e1 e2 e3 c.wrapping_add.ensures put.1 c.wrapping_add-2.ensures,
    )
