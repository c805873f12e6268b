-- `put`: what is put stays within the room.
use Rattle.std.proofs.Common.{◌≤◌, ◌≡◌, length}
use Rattle.test_image.proofs.pieces.put.Given as goal

abbrev pub invariant-loop-piece : goal.invariant-loop-piece
invariant-loop-piece l =
    (goal.iterator-loop-piece).can_next l.piece-iterator
    × (goal.iterator-loop-piece).is_finite l.piece-iterator
    × (l.size ≤ length l.room)
    × (length l.room ≡ length l.initial.room)
