-- Pairs and images say the same: both lay the region's words, by one line or by records.
use Prim.Native.Nat.{ℕ}
use mathlib.Core.Path.{◌≡◌, refl, sym}
use mathlib.Core.Bool.{Bool, true, false, cond}
use mathlib.Core.Logic.{◌⊎◌, inl, inr}
use mathlib.Core.List.{List}
use lib.ListN.{length, replicate}
use Rattle.refusal.specs.declared.Refusal.TheVariants.{MemoryTooLong, PastMemory}
use Rattle.refusal.specs.Report.{refused, answered}
use Rattle.refusal.proofs.ReportLaws.{no_answer}
use Rattle.memory.specs.Memory.{too_long}
use Rattle.text.specs.Text.{digit_of, hex_of}
use Rattle.records.specs.Records.{is_within, overwrite}
use Rattle.records.specs.Region.{span_of, words_between, region_admission}
use Rattle.records.specs.Cut.{record_count}
use Rattle.records.specs.Loading.{refuse_load, laying}
use Rattle.records.proofs.LoadLaws.{layings-alike}
use Rattle.image.specs.Format.{record_limit}
use Rattle.image.proofs.TripLaws.{own-lays}
use Rattle.image.proofs.Examples.{document-file}
use Rattle.pair.specs.Format.{mapping_line}
use Rattle.pair.specs.Write.{text_for, writing_pair, write_pair_of}
use Rattle.pair.proofs.TextLaws.{same_number}
use Rattle.pair.proofs.TripLaws.{pair-lays}
use Rattle.guarantees.specs.Pairs.{PairIsImage, BothWritten}

-- a laying is refused by 1 or 11 only
laying_refused : (records : ℕ) (n : List ℕ) (a : ℕ) (ws : List ℕ) (r : ℕ) → (laying records n a ws).answer ≡ refused r → (r ≡ 1) ⊎ (r ≡ 11)
laying_refused records n a ws r = go (too_long n) (is_within (length n) a (length ws))
  where
    go : (u v : Bool)
        → (cond u (refuse_load n MemoryTooLong) (cond v (record { answer = answered records; memory = overwrite n a ws }) (refuse_load n PastMemory))).answer ≡ refused r
        → (r ≡ 1) ⊎ (r ≡ 11)
    go true v e = inl (sym (same_number e))
    go false true e = no_answer (sym e)
    go false false e = inr (sym (same_number e))

pub pair-is-image : PairIsImage
pair-is-image board m first last image file text f p n =
    let ws = words_between m first last in
    let i = own-lays board m first last image f n in
    let q = pair-lays m first last file text p n in
    record {
      alike = rw (i, q) (layings-alike (record_count record_limit (span_of first last)) 1 n first ws);
      refusals = λ r e. laying_refused 1 n first ws r (rw q at e);
    }

-- by computing the writer's definition
pub both-written : BothWritten
unfolding digit_of hex_of overwrite region_admission mapping_line text_for writing_pair write_pair_of
both-written =
    record {
      image = document-file.written;
      pair = record { bin = replicate 2 0; cfg = replicate 32 0; answer = refl; file_bytes = refl; text_bytes_written = refl };
    }
