-- Files that tell the two limits apart, and one that does not: by the laws where they say it, and else by computing.
use Prim.Native.Nat.{ℕ, ◌<◌, ◌≤◌}
use mathlib.Core.Path.{◌≡◌, refl, ◌∙◌}
use mathlib.Core.Bool.{true}
use mathlib.Core.List.{List}
use native.Mathlib.Omega.{arith}
use lib.Dec.{lit<, lit≤}
use lib.ListN.{length, replicate, length-replicate}
use borrow.Author.Tests.{le-ltb}
use Rattle.word.proofs.Choice.{cond-true, cond-false}
use Rattle.refusal.specs.Report.{refused, answered}
use Rattle.std.proofs.Common.{Ok}
use Rattle.bigendian.specs.Numbers.{word_at}
use Rattle.records.specs.Records.{is_within, overwrite}
use Rattle.records.specs.Loading.{laying}
use Rattle.records.specs.Region.{span_of, words_between, region_admission}
use Rattle.records.specs.Cut.{cut_of, record_count}
use Rattle.image.specs.Format.{record_limit, record_bytes, body_bytes, id_head, image_of}
use Rattle.image.specs.Read.{opened, head_of, record_part, place_of, record_of, part_of, body_of}
use Rattle.image.specs.Load.{load_with}
use Rattle.image.specs.Write.{region_image}
use Rattle.image.specs.Laws.{WrittenFile}
use Rattle.image.specs.Limits.{old_limit, old_load_of, Counted, Meets, at_front, behind, FileMeets, WorkedCounts, long_region, cleared_memory, LongRegion, longer_file, LongerRecord}
use Rattle.image.proofs.HeadLaws.{own-head}
use Rattle.image.proofs.TripLaws.{written-lays}
use Rattle.image.proofs.LimitLaws.{every-region-is-written}

limit_taken : (len : ℕ) (bytes : List ℕ) (address : ℕ) → record_bytes 4096 ≤ length bytes → is_within len address 4096 ≡ true
    → place_of record_limit len bytes address 4096 ≡ record_part address 4096
unfolding place_of
limit_taken len bytes address h w = cond-false _ _ (le-ltb (length bytes) (record_bytes 4096) h) ∙ cond-true _ _ w

pub worked-counts : WorkedCounts
unfolding place_of
worked-counts =
    record {
      limit_taken = limit_taken;
      limit_met = limit_taken 4096 (replicate (record_bytes 4096) 0) 0 (omega (arith, length-replicate {A = ℕ} (record_bytes 4096) 0)) refl;
      above_refused = λ len bytes address. refl;
      one_record = refl;
      two_records = refl;
    }

abbrev file_at : ℕ → List ℕ
file_at cut = region_image (id_head 2) cut long_region 0 1024

admitted : region_admission long_region 0 1024 ≡ Ok (tt {0})
unfolding region_admission
admitted = refl

written_at : (cut : ℕ) → WrittenFile (id_head 2) cut long_region 0 1024 (file_at cut)
written_at cut = every-region-is-written (id_head 2) cut long_region 0 1024 admitted

laid : (records : ℕ) → laying records cleared_memory 0 (words_between long_region 0 1024) ≡ record { answer = answered records; memory = long_region }
unfolding overwrite
laid records = refl

loaded_at : (cut limit : ℕ) → 0 < cut → cut ≤ limit
    → load_with head_of limit 2 cleared_memory (file_at cut) ≡ record { answer = answered (record_count cut (span_of 0 1024)); memory = long_region }
loaded_at cut limit p q =
    written-lays head_of (id_head 2) (own-head.back 2) 2 refl cut limit p q long_region 0 1024 (file_at cut) (written_at cut) cleared_memory
    ∙ laid (record_count cut (span_of 0 1024))

refused_new : old_load_of 2 cleared_memory (file_at record_limit) ≡ record { answer = refused 9; memory = cleared_memory }
unfolding load_with head_of image_of cut_of word_at place_of record_of part_of body_of
refused_new = refl

-- a record's head behind the file's is met
met_by : (file : List ℕ) (count : ℕ) → head_of file ≡ opened (id_head 2) → Counted (body_bytes file) count → FileMeets head_of record_limit 2 cleared_memory file count
met_by file count o c = record { fits = refl; head = id_head 2; opens = o; here = refl; meets = at_front c }

first_old : FileMeets head_of record_limit 2 cleared_memory (file_at old_limit) 1024
unfolding head_of image_of cut_of word_at
first_old = met_by (file_at old_limit) 1024 refl (record { size = lit≤ tt; mark = refl; states = refl })

first_new : FileMeets head_of record_limit 2 cleared_memory (file_at record_limit) 1025
unfolding head_of image_of cut_of word_at
first_new = met_by (file_at record_limit) 1025 refl (record { size = lit≤ tt; mark = refl; states = refl })

pub long-region : LongRegion
long-region =
    record {
      old = file_at old_limit;
      new = file_at record_limit;
      written_old = written_at old_limit;
      written_new = written_at record_limit;
      loads_old = loaded_at old_limit record_limit (lit< tt) (lit≤ tt);
      first_old = first_old;
      loads_new = loaded_at record_limit record_limit (lit< tt) (lit≤ tt);
      took_old = loaded_at old_limit old_limit (lit< tt) (lit≤ tt);
      refused_new = refused_new;
      first_new = first_new;
    }

-- The record of longer_file is an offence, so nothing behind it is met.
body : List ℕ
body = body_bytes longer_file

offends : {a c : ℕ} → part_of record_limit 1025 body ≡ record_part a c → ⊥
unfolding body word_at place_of record_of part_of
offends e = let z : ◌≡◌ {A = ℕ} 0 1 = cc in omega arith

only : (count : ℕ) → Meets record_limit 1025 body count → 4097 ≡ count
unfolding body word_at
only count (at_front t) = t.states
only count (behind e m) = absurd (offends e)

none_between : (count : ℕ) → FileMeets head_of record_limit 2 cleared_memory longer_file count → old_limit < count → count ≤ record_limit → ⊥
unfolding body head_of word_at
none_between count f p q =
    let o : opened (id_head 2) ≡ opened f.head = f.opens in
    let e : f.head ≡ id_head 2 = cc in
    let n = only count (rw e at f.meets) in
    omega arith

pub longer-record : LongerRecord
unfolding load_with head_of word_at place_of record_of part_of body_of
longer-record =
    record {
      met = met_by longer_file 4097 refl (record { size = lit≤ tt; mark = refl; states = refl });
      none_between = none_between;
      refused_now = refl;
      refused_before = refl;
    }
