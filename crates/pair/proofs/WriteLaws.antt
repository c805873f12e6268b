-- Laws of the writer: the text in its room, and its ways in the order of their numbers.
use Prim.Native.Nat.{ℕ, ◌+◌, ◌-◌, ◌*◌, ◌<◌, ◌≤◌}
use mathlib.Core.Path.{◌≡◌, sym, ap, ◌∙◌}
use mathlib.Core.List.{List, ◌++◌, append_assoc, append-nil}
use native.Mathlib.Omega.{arith}
use borrow.Rule.Slice.PartMut.{put_mid}
use lib.ListN.{length, drop, length-append}
use lib.Seq.{take-append_seam, drop-append_seam, drop-drop}
use borrow.Author.Tests.{lt-ltb, le-ltb}
use Rattle.refusal.specs.declared.Refusal.{Refusal}
use Rattle.refusal.specs.declared.Refusal.TheVariants.{RoomTooSmall}
use Rattle.refusal.specs.Report.{answered}
use Rattle.std.proofs.Common.{Ok, Err}
use Rattle.bigendian.specs.Numbers.{bytes_of, put_words}
use Rattle.bigendian.proofs.NumberLaws.{bytes-length, put-fits}
use Rattle.records.specs.Records.{overwrite}
use Rattle.records.specs.Region.{words_between, region_admission}
use Rattle.records.proofs.OverLaws.{overwrite-sets}
use Rattle.records.proofs.LoadLaws.{admitted-region, region-length}
use Rattle.pair.specs.declared.line.Mapping.{Mapping}
use Rattle.pair.specs.Format.{head_line, mapping_line, line_bytes, text_bytes}
use Rattle.pair.specs.Write.{text_for, PairWriting, refuse_pair, writing_pair, write_pair_of}
use Rattle.pair.proofs.FrontLaws.{line-length}

-- the one mapping of a written text
abbrev whole : ℕ → ℕ → Mapping
whole first words = record { first = 0; last = words - 1; target = first }

pub text_is : (first words : ℕ) → text_for first words ≡ head_line ++ mapping_line (whole first words)
unfolding text_for
text_is first words = ap (λ (l : List ℕ). head_line ++ l) (append-nil (mapping_line (whole first words)))

pub text-length : (first words : ℕ) → length (text_for first words) ≡ text_bytes
text-length first words = omega (arith, ap length (text_is first words), length-append head_line (mapping_line (whole first words)), line-length (whole first words))

-- two pieces put one behind the other at the front of a room: the second into what the first left
pieces-put : (d xs : List ℕ) (n : ℕ) {x y ys : List ℕ} → x ≡ xs → y ≡ ys → length ys ≡ n
    → put_mid (length xs) n (x ++ drop (length xs) d) y ≡ overwrite d 0 (xs ++ ys)
unfolding overwrite
pieces-put d xs n {x} {y} {ys} e z k =
    let l : 0 + length (xs ++ ys) ≡ length xs + n = omega (arith, length-append xs ys) in
    rw (e, z, take-append_seam xs (drop (length xs) d), drop-append_seam xs (drop (length xs) d), drop-drop n (length xs) d, l) (
    sym (append_assoc xs ys (drop (length xs + n) d)))

pub text-put : (d : List ℕ) (first words : ℕ) {front line : List ℕ} → front ≡ head_line → line ≡ mapping_line (whole first words)
    → put_mid (length head_line) line_bytes (front ++ drop (length head_line) d) line ≡ overwrite d 0 (text_for first words)
text-put d first words e z = pieces-put d head_line line_bytes e z (line-length (whole first words)) ∙ ap (overwrite d 0) (sym (text_is first words))

-- The room of either is short, or both are written.
module _ (first : ℕ) (region bin cfg : List ℕ) where
  pub bin-short : length bin < length region * 2 → refuse_pair bin cfg RoomTooSmall ≡ writing_pair bin cfg (bytes_of region) (text_for first (length region))
  unfolding writing_pair
  bin-short h = rw (lt-ltb (length bin) (length (bytes_of region)) (omega (arith, bytes-length region)))

  pub cfg-short : length region * 2 ≤ length bin → length cfg < text_bytes → refuse_pair bin cfg RoomTooSmall ≡ writing_pair bin cfg (bytes_of region) (text_for first (length region))
  unfolding writing_pair
  cfg-short h l =
      rw (
        le-ltb (length bin) (length (bytes_of region)) (omega (arith, bytes-length region)),
        lt-ltb (length cfg) (length (text_for first (length region))) (omega (arith, text-length first (length region))),
      )

  pub both-written : length region * 2 ≤ length bin → text_bytes ≤ length cfg → {b c : List ℕ} → b ≡ put_words bin 0 region → c ≡ overwrite cfg 0 (text_for first (length region))
      → record { answer = answered (record { bin = length region * 2; cfg = text_bytes }); bin = b; cfg = c }
      ≡ writing_pair bin cfg (bytes_of region) (text_for first (length region))
  unfolding writing_pair
  both-written h l {b} {c} e f =
      let n = bytes-length region in
      let t = text-length first (length region) in
      let p : b ≡ overwrite bin 0 (bytes_of region) = e ∙ put-fits bin 0 region (omega arith) ∙ sym (overwrite-sets bin 0 (bytes_of region) (omega arith)) in
      rw (
        le-ltb (length bin) (length (bytes_of region)) (omega arith),
        le-ltb (length cfg) (length (text_for first (length region))) (omega arith),
        n,
        t,
        p,
        f,
      )

-- The writer's ways.
module _ (m : List ℕ) (first last : ℕ) (bin cfg : List ℕ) where
  pub write-barred : {r : Refusal} → region_admission m first last ≡ Err r → refuse_pair bin cfg r ≡ write_pair_of m first last bin cfg
  unfolding write_pair_of
  write-barred e = rw e

  pub write-admitted : region_admission m first last ≡ Ok (tt {0}) → {w : PairWriting}
      → w ≡ writing_pair bin cfg (bytes_of (words_between m first last)) (text_for first (length (words_between m first last))) → w ≡ write_pair_of m first last bin cfg
  unfolding write_pair_of
  write-admitted e f =
      let r = admitted-region m first last e in
      f ∙ rw (e, region-length m first last r.ordered r.within)
