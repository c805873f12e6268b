-- Laws of the reader's tests: what the first pass gathered decides each of them.
use Prim.Native.Nat.{ℕ, suc, max, ◌+◌, ◌/◌, ◌%◌, ◌<◌, ◌≤◌}
use mathlib.Core.Path.{◌≡◌, refl, sym, ap, ◌∙◌}
use mathlib.Core.Bool.{Bool, true, false, cond, ◌&&◌}
use mathlib.Core.List.{List, [], ◌∷◌}
use native.Mathlib.Omega.{arith}
use native.Mathlib.Decide.{dec_le}
use native.Mathlib.Numerals.{add-one}
use lib.Dec.{ltb, leb, leb-zero}
use lib.ListN.{length, drop, length-take, length-drop}
use borrow.Author.Tests.{eq-eqb, ne_eqb, lt-leb, le-leb, ltb-true}
use Rattle.refusal.specs.declared.Refusal.TheVariants.{MemoryTooLong, PastMemory, MalformedMapping, MissingFileWords}
use Rattle.refusal.specs.Report.{answered}
use Rattle.memory.specs.Memory.{too_long}
use Rattle.word.proofs.Choice.{cond-true, cond-false}
use Rattle.text.proofs.Tests.{and_left, and_right}
use Rattle.bigendian.specs.Numbers.{all_words}
use Rattle.bigendian.proofs.NumberLaws.{words-length}
use Rattle.records.specs.Records.{all_within}
use Rattle.records.specs.Region.{span_of, words_between}
use Rattle.records.specs.Loading.{Loading, refuse_load}
use Rattle.pair.specs.declared.line.Mapping.{Mapping}
use Rattle.pair.specs.declared.check.Checked.{Checked}
use Rattle.std.proofs.Common.{Ok, Err}
use Rattle.refusal.specs.declared.Refusal.{Refusal}
use Rattle.pair.specs.Format.{head_line}
use Rattle.pair.specs.Read.{begins_with, Mappings, listed, malformed, mappings_below, mappings_of}
use Rattle.pair.specs.Load.{mapped_records, are_there, targets_tested, lines_tested, load_pair_of}
use Rattle.pair.specs.Inner.Pass.{file_end, target_end, file_ends, target_ends, gathered, Fits, placed_mappings}

-- a bound of the larger of two is one of both
max-both : (a b n : ℕ) → leb (max a b) n ≡ (leb a n && leb b n)
max-both a b n = go (dec_le a n) (dec_le b n)
  where
    go : Dec (a ≤ n) → Dec (b ≤ n) → leb (max a b) n ≡ (leb a n && leb b n)
    go (yes p) (yes q) = rw (le-leb a n p, le-leb b n q) (le-leb (max a b) n (omega arith))
    go (yes p) (no q) = rw (le-leb a n p, lt-leb b n (omega arith)) (lt-leb (max a b) n (omega arith))
    go (no p) q = rw (lt-leb a n (omega arith)) (lt-leb (max a b) n (omega arith))

and_assoc : (a b c : Bool) → ((a && b) && c) ≡ (a && (b && c))
and_assoc true b c = refl
and_assoc false b c = refl

and-true : (a : Bool) → (a && true) ≡ a
and-true true = refl
and-true false = refl

-- `cond` to false is `and`
cond-and : (a b : Bool) → cond a b false ≡ (a && b)
cond-and true b = refl
cond-and false b = refl

-- the furthest word in the flat file decides whether all are there
there-is : (k n : ℕ) (ms : List Mapping) → leb (file_ends k ms) n ≡ (leb k n && are_there n ms)
there-is k n [] = sym (and-true (leb k n))
there-is k n (m ∷ ms) =
    there-is (max k (file_end m)) n ms
    ∙ rw (max-both k (file_end m) n, and_assoc (leb k n) (leb (file_end m) n) (are_there n ms), add-one m.last)

-- the furthest one in memory decides whether all lie within
within-is : (k len : ℕ) (words : List ℕ) (ms : List Mapping) → are_there (length words) ms ≡ true
    → leb (target_ends k ms) len ≡ (leb k len && all_within len (mapped_records words ms))
within-is k len words [] t = sym (and-true (leb k len))
within-is k len words (m ∷ ms) t =
    let h = ltb m.last (length words) in
    let b = ltb-true m.last (length words) (and_left h (are_there (length words) ms) t) in
    let w = words_between words m.first m.last in
    let s : m.target + length w ≡ target_end m = omega (arith, length-take (span_of m.first m.last) (drop m.first words), length-drop m.first words) in
    within-is (max k (target_end m)) len words ms (and_right h (are_there (length words) ms) t)
    ∙ rw (max-both k (target_end m) len, and_assoc (leb k len) (leb (target_end m) len) (all_within len (mapped_records words ms)), s, cond-and (leb (target_end m) len) (all_within len (mapped_records words ms)))

-- What the first pass answers of good lines.
pub record Summed (ls : Mappings) (c : Checked) : Type 0 where
  pub mappings : List Mapping
  pub is : ls ≡ listed mappings
  pub counts : c.count ≡ length mappings
  pub names : c.words ≡ file_ends 0 mappings
  pub reaches : c.end ≡ target_ends 0 mappings

pub summed : (ls : Mappings) {c : Checked} → Ok c ≡ gathered 0 0 0 ls → Summed ls c
summed (listed ms) {c} e =
    let k : c ≡ record { count = 0 + length ms; words = file_ends 0 ms; end = target_ends 0 ms } = cc in
    record {
      mappings = ms;
      is = refl;
      counts = ap (λ (x : Checked). x.count) k ∙ omega arith;
      names = ap (λ (x : Checked). x.words) k;
      reaches = ap (λ (x : Checked). x.end) k;
    }
summed malformed e = let z : ◌≡◌ {A = ℕ} 0 1 = cc in absurd (omega arith)

pub lines-malformed : (m bin : List ℕ) (ls : Mappings) (r : Refusal) → Err r ≡ gathered 0 0 0 ls → refuse_load m r ≡ lines_tested m bin ls
lines-malformed m bin (listed ms) r e = let z : ◌≡◌ {A = ℕ} 0 1 = cc in absurd (omega arith)
lines-malformed m bin malformed r e = let f : r ≡ MalformedMapping = cc in rw f

-- The tests of good lines, in their order.
pub records-count : (words : List ℕ) (ms : List Mapping) → length (mapped_records words ms) ≡ length ms
records-count words [] = refl
records-count words (m ∷ ms) = ap suc (records-count words ms)

module _ (m bin : List ℕ) (ls : Mappings) {k : Checked} (s : Summed ls k) where
  pub lines-odd : (length bin % 2 ≡ 0 → ⊥) → refuse_load m MissingFileWords ≡ lines_tested m bin ls
  lines-odd d = rw (s.is, ne_eqb _ _ d)

  module _ (even : length bin % 2 ≡ 0) where
    there : are_there (length bin / 2) s.mappings ≡ leb k.words (length bin / 2)
    there = sym (ap (λ (n : ℕ). leb n (length bin / 2)) s.names ∙ there-is 0 (length bin / 2) s.mappings ∙ rw (leb-zero (length bin / 2)))

    pub lines-missing : length bin / 2 < k.words → refuse_load m MissingFileWords ≡ lines_tested m bin ls
    lines-missing h = rw (s.is, eq-eqb _ _ even, there, lt-leb _ _ h)

    module _ (h : k.words ≤ length bin / 2) where
      all_there : are_there (length (all_words bin)) s.mappings ≡ true
      all_there = rw (words-length (length bin / 2) bin) (there ∙ le-leb _ _ h)

      tested : lines_tested m bin ls ≡ targets_tested m (mapped_records (all_words bin) s.mappings)
      tested = rw (s.is, eq-eqb _ _ even, there, le-leb _ _ h)

      within : all_within (length m) (mapped_records (all_words bin) s.mappings) ≡ leb k.end (length m)
      within = sym (ap (λ (n : ℕ). leb n (length m)) s.reaches ∙ within-is 0 (length m) (all_words bin) s.mappings all_there ∙ rw (leb-zero (length m)))

      pub lines-past : length m < k.end → refuse_load m PastMemory ≡ lines_tested m bin ls
      lines-past l = sym (tested ∙ cond-false _ _ (within ∙ lt-leb _ _ l))

      module _ (l : k.end ≤ length m) where
        pub lines_fit : Fits (all_words bin) (length m) ls
        lines_fit = rw s.is (all_there, within ∙ le-leb _ _ l)

        pub lines_stored : {n : List ℕ} → n ≡ placed_mappings (all_words bin) m ls → record { answer = answered k.count; memory = n } ≡ lines_tested m bin ls
        lines_stored e =
            let p = rw s.is at e in
            let q = s.counts ∙ sym (records-count (all_words bin) s.mappings) in
            rw (p, q) (sym (tested ∙ cond-true _ _ (within ∙ le-leb _ _ l)))

-- The reader's ways, in the order of their numbers.
module _ (m bin cfg : List ℕ) where
  pub load-long : too_long m ≡ true → refuse_load m MemoryTooLong ≡ load_pair_of m bin cfg
  unfolding load_pair_of
  load-long h = sym (cond-true _ _ h)

  module _ (t : too_long m ≡ false) where
    pub load-unheaded : begins_with cfg head_line ≡ false → refuse_load m MalformedMapping ≡ load_pair_of m bin cfg
    unfolding load_pair_of mappings_of
    load-unheaded h = sym (cond-false _ _ t ∙ rw h)

    pub load-headed : {n : Loading} {lines : List ℕ} → begins_with cfg head_line ≡ true → lines ≡ drop (length head_line) cfg
        → n ≡ lines_tested m bin (mappings_below lines) → n ≡ load_pair_of m bin cfg
    unfolding load_pair_of mappings_of
    load-headed h l e = rw l at e ∙ sym (cond-false _ _ t ∙ rw h)
