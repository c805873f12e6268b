-- The head, the records and the tail are the file, and it fits the room.
use Rattle.image.proofs.EmitLaws.{room-short, room-written}
use Rattle.image.proofs.emit.put_image.Goals as goal

pub returns-then-room-bytes : goal.returns-then-room-bytes
returns-then-room-bytes c = let a = c.args in
    room-short a.board a.first a.region.now a.room.now c.image_length-bytes.ensures c.if-room-bytes.true

pub returns : goal.returns
returns c = let a = c.args in
    room-written a.board a.first a.region.now a.room.now c.image_length-bytes.ensures c.put_word.ensures c.put_word-2.ensures c.put_records-sum.ensures c.put_word-3.ensures c.wrapping_add.ensures c.put_word-4.ensures c.if-room-bytes.false
