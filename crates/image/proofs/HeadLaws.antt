-- The `ID` head meets what the laws of files ask of a head.
use Prim.Native.Nat.{ℕ, ◌+◌, ◌*◌, ◌/◌, ◌%◌, ◌≤◌}
use mathlib.Core.Path.{◌≡◌, refl, ap, ◌∙◌}
use mathlib.Core.List.{List, ◌++◌}
use native.Mathlib.Omega.{arith}
use lib.ListN.{length, set, length-set}
use borrow.Author.Tests.{le-ltb}
use Rattle.bigendian.specs.Numbers.{word_at, bytes_of}
use Rattle.bigendian.proofs.NumberLaws.{word_kept}
use Rattle.image.specs.Format.{board_at, head_bytes, id_head, head_words, head_length}
use Rattle.image.specs.Read.{head_of}
use Rattle.image.specs.Laws.{ReadsBack, ReadsHeadAlone, OwnHead}
use Rattle.image.proofs.ReadLaws.{head-shown}

head-size : (board : ℕ) → head_length (id_head board) ≡ head_bytes
head-size board = refl

head-back : (board : ℕ) → ReadsBack head_of (id_head board)
unfolding head_of word_at
head-back board rest =
    let e : board / 256 * 256 + board % 256 ≡ board = omega arith in
    rw (le-ltb (length (bytes_of (head_words (id_head board)) ++ rest)) head_bytes (omega arith), e)

head-kept : (file : List ℕ) (i b : ℕ) → head_bytes ≤ i → head_of (set file i b) ≡ head_of file
unfolding head_of
head-kept file i b h = rw (length-set file i b, word_kept file i b 0 (omega arith), word_kept file i b board_at (omega arith))

head-alone : ReadsHeadAlone head_of
head-alone file head e i b h =
    let s = head-shown file head e in
    let n : head_length head ≡ head_bytes = ap head_length s.is ∙ head-size s.named in
    head-kept file i b (rw n at h) ∙ e

pub own-head : OwnHead
own-head = record { size = head-size; back = head-back; alone = head-alone }
