-- The laws of what a loading answers, and of a region that is put back.
use Prim.Native.Nat.{ℕ, ◌+◌, ◌-◌, ◌<◌, ◌≤◌}
use mathlib.Core.Path.{◌≡◌, refl, ◌∙◌}
use mathlib.Core.Bool.{Bool, true, false, cond}
use mathlib.Core.List.{List}
use native.Mathlib.Omega.{arith}
use lib.Dec.{ltb}
use lib.ListN.{length, drop, length-take, length-drop}
use lib.Seq.{get_or-take, get_or-drop}
use borrow.Author.Tests.{ltb-false, leb-true, le-leb}
use Rattle.refusal.specs.declared.Refusal.TheVariants.{MemoryTooLong, FirstAboveLast, PastMemory}
use Rattle.refusal.specs.Report.{answered}
use Rattle.refusal.proofs.ReportLaws.{reported-apart}
use Rattle.memory.specs.Memory.{peek_of, too_long}
use Rattle.std.specs.Prelude.{Ok, Err}
use Rattle.records.specs.Records.{is_within, overwrite}
use Rattle.records.specs.Region.{span_of, words_between, region_admission}
use Rattle.records.specs.Loading.{LoadAnswersApart, Loading, refuse_load, LoadedAlike, PutBack}
use Rattle.records.specs.Laws.{LayingsAlike}
use Rattle.records.proofs.OverLaws.{overwrite-length, read-inside, read_below, read_above}

pub load-answers-apart : LoadAnswersApart
load-answers-apart = reported-apart (λ records. records) (λ a b e. e)

pub layings-alike : LayingsAlike
layings-alike j k n a ws = go (too_long n) (is_within (length n) a (length ws))
  where
    go : (u v : Bool)
        → let end : ℕ → Loading = λ records.
        cond u (refuse_load n MemoryTooLong)
        (cond v (record { answer = answered records; memory = overwrite n a ws }) (refuse_load n PastMemory)) in
        LoadedAlike (end j) (end k)
    go true v = record { memory = refl; answer = refl }
    go false true = record { memory = refl; answer = tt }
    go false false = record { memory = refl; answer = refl }

-- A region that is let in.
pub record Region (m : List ℕ) (first last : ℕ) : Type 0 where
  pub small : length m ≤ 65536
  pub ordered : first ≤ last
  pub within : last < length m

pub admitted-region : (m : List ℕ) (first last : ℕ) → region_admission m first last ≡ Ok (tt {0}) → Region m first last
unfolding region_admission
admitted-region m first last = go (too_long m) (ltb last first) (is_within (length m) first (span_of first last)) refl refl refl
  where
    go : (u v w : Bool) → too_long m ≡ u → ltb last first ≡ v → is_within (length m) first (span_of first last) ≡ w
        → cond u (Err MemoryTooLong) (cond v (Err FirstAboveLast) (cond w (Ok tt) (Err PastMemory))) ≡ Ok (tt {0}) → Region m first last
    go true v w a b c e = cc
    go false true w a b c e = cc
    go false false false a b c e = cc
    go false false true a b c e =
        let o = ltb-false last first b in
        record {
          small = ltb-false 65536 (length m) a;
          ordered = o;
          within = omega (arith, leb-true (first + span_of first last) (length m) c);
        }

module _ (m : List ℕ) (first last : ℕ) (o : first ≤ last) (h : last < length m) where
  pub region-length : length (words_between m first last) ≡ span_of first last
  region-length = omega (arith, length-take (span_of first last) (drop first m), length-drop first m)

  pub region-within : (len : ℕ) → last < len → is_within len first (length (words_between m first last)) ≡ true
  region-within len l = le-leb (first + length (words_between m first last)) len (omega (arith, region-length))

  -- the region's words laid over another memory are put back
  pub region-back : (records : ℕ) (n : List ℕ) → last < length n
      → PutBack records m first last n (record { answer = answered records; memory = overwrite n first (words_between m first last) })
  unfolding peek_of
  region-back records n l =
      let ws = words_between m first last in
      let c = region-length in
      let f : first + length ws ≤ length n = omega arith in
      record {
        answer = refl;
        region = λ a p q.
            let e : first + (a - first) ≡ a = omega arith in
            rw e at (
            read-inside n first ws f (a - first) 0xFFFF (omega arith)
            ∙ get_or-take (span_of first last) (drop first m) (a - first) 0xFFFF (omega arith)
            ∙ get_or-drop first m (a - first) 0xFFFF);
        below = λ a p. read_below n first ws f a 0xFFFF p;
        above = λ a p.
            let e : first + length ws + (a - (last + 1)) ≡ a = omega arith in
            rw e at (read_above n first ws f (a - (last + 1)) 0xFFFF);
        size = overwrite-length n first ws f;
      }
