-- Laws of the second pass: the words of a mapping, and what each turn of the loop stores.
use Prim.Native.Nat.{ℕ, ◌+◌, ◌-◌, ◌*◌, ◌/◌, ◌<◌, ◌≤◌}
use mathlib.Core.Path.{◌≡◌, refl, sym, ap, subst, ◌∙◌}
use mathlib.Core.List.{List}
use mathlib.Core.Logic.{⊎_elim}
use native.Mathlib.Omega.{arith}
use lib.Dec.{ltb}
use lib.ListN.{length, get_or, take, drop, length-take, length-drop}
use lib.Seq.{sets}
use borrow.Author.Tests.{ltb-true}
use Rattle.text.proofs.Tests.{and_left, and_right}
use Rattle.bigendian.specs.Numbers.{all_words}
use Rattle.bigendian.proofs.NumberLaws.{words-length, words-first, words-own, words-behind}
use Rattle.records.specs.Records.{overwrite, record_over}
use Rattle.records.specs.Region.{span_of, words_between}
use Rattle.records.proofs.OverLaws.{overwrite-sets, overwrite-length}
use Rattle.records.proofs.PlacedLaws.{split}
use Rattle.std.proofs.Common.{Some, Ok}
use Rattle.pair.specs.declared.line.Mapping.{Mapping}
use Rattle.text.specs.Text.{line_feed}
use Rattle.pair.specs.Format.{line_bytes}
use Rattle.pair.specs.Read.{mapping_at, front_of, Mappings, listed, malformed, with_mapping, mappings_below}
use Rattle.pair.specs.Load.{mapped_records, are_there}
use Rattle.pair.specs.Inner.Pass.{Fits, placed_mappings}
use Rattle.pair.proofs.FrontLaws.{front-blank, front-other}
use Rattle.pair.proofs.LinesLaws.{line-shown, lines_end, lines-on}

-- the words that a mapping names, read off their own part of the flat file
module _ (bin : List ℕ) (first last : ℕ) (o : first ≤ last) (h : last < length bin / 2) where
  span-length : length (take (last * 2 + 2 - first * 2) (drop (first * 2) bin)) / 2 ≡ span_of first last
  span-length =
      let t = length-take (last * 2 + 2 - first * 2) (drop (first * 2) bin) in
      let d = length-drop (first * 2) bin in
      omega arith

  pub part-words : all_words (take (last * 2 + 2 - first * 2) (drop (first * 2) bin)) ≡ words_between (all_words bin) first last
  part-words =
      let n = span_of first last in
      let e : last * 2 + 2 - first * 2 ≡ n * 2 = omega arith in
      rw span-length (
      rw (e, words-own n (drop (first * 2) bin)) (
      words-first n (length bin / 2 - first) (drop (first * 2) bin) (omega arith)
      ∙ ap (take n) (sym (words-behind first (length bin / 2) bin))))

  pub between-length : length (words_between (all_words bin) first last) ≡ span_of first last
  between-length = omega (arith, length-take (span_of first last) (drop first (all_words bin)), length-drop first (all_words bin), words-length (length bin / 2) bin)

  pub mapping-stored : (m n : List ℕ) (target : ℕ) → target + span_of first last ≤ length m
      → n ≡ sets m target (all_words (take (last * 2 + 2 - first * 2) (drop (first * 2) bin)))
      → n ≡ overwrite m target (words_between (all_words bin) first last)
  mapping-stored m n target l e = e ∙ ap (sets m target) part-words ∙ sym (overwrite-sets m target (words_between (all_words bin) first last) (omega (arith, between-length)))

-- What lines that fit show of their first mapping.
record FirstFits (words : List ℕ) (len : ℕ) (mp : Mapping) (ls : Mappings) : Type 0 where
  there : mp.last < length words
  reach : mp.target + length (words_between words mp.first mp.last) ≤ len
  later : Fits words len ls

first_fits : (words : List ℕ) (len : ℕ) (mp : Mapping) (ls : Mappings) → Fits words len (with_mapping mp ls) → FirstFits words len mp ls
first_fits words len mp (listed ms) k =
    let t = ltb mp.last (length words) in
    let s = split len (record_over mp.target (words_between words mp.first mp.last)) (mapped_records words ms) k.1 in
    record {
      there = ltb-true mp.last (length words) (and_left t (are_there (length words) ms) k.0);
      reach = s.here;
      later = (and_right t (are_there (length words) ms) k.0, s.later);
    }
first_fits words len mp malformed k = absurd k

placed_on : (words m : List ℕ) (len : ℕ) (mp : Mapping) (ls : Mappings) → Fits words len ls
    → placed_mappings words (overwrite m mp.target (words_between words mp.first mp.last)) ls ≡ placed_mappings words m (with_mapping mp ls)
placed_on words m len mp (listed ms) k = refl
placed_on words m len mp malformed k = absurd k

-- The second pass: what the lines before those that are left name is stored, and what is left fits.
pub record Storing (words lines m₀ left m : List ℕ) : Type 0 where
  pub size : length m ≡ length m₀
  pub fits : Fits words (length m₀) (mappings_below left)
  pub same : placed_mappings words m (mappings_below left) ≡ placed_mappings words m₀ (mappings_below lines)

pub storing : (words lines m : List ℕ) → Fits words (length m) (mappings_below lines) → Storing words lines m lines m
storing words lines m k = record { size = refl; fits = k; same = refl }

-- What the first of the lines that are left shows, where it is not empty.
pub record LineFits (words lines m₀ left m : List ℕ) (mp : Mapping) : Type 0 where
  pub ordered : mp.first ≤ mp.last
  pub there : mp.last < length words
  pub reach : mp.target + length (words_between words mp.first mp.last) ≤ length m
  pub complete : line_bytes ≤ length left
  pub next : (n : List ℕ) → n ≡ overwrite m mp.target (words_between words mp.first mp.last) → Storing words lines m₀ (drop line_bytes left) n

module _ {words lines m₀ left m : List ℕ} (k : Storing words lines m₀ left m) where
  pub storing-end : length left ≡ 0 → m ≡ placed_mappings words m₀ (mappings_below lines)
  storing-end h = ap (placed_mappings words m) (sym (lines_end left h)) ∙ k.same

  module _ (some : 0 < length left) where
    pub storing-blank : get_or left 0 0 ≡ line_feed → Storing words lines m₀ (drop 1 left) m
    storing-blank e =
        let l = lines-on left some (front-blank left some e) in
        record { size = k.size; fits = rw l at k.fits; same = ap (placed_mappings words m) (sym l) ∙ k.same }

    line-stored : Ok (Some (mapping_at left)) ≡ front_of left → LineFits words lines m₀ left m (mapping_at left)
    line-stored e =
        let mp = mapping_at left in
        let ls = mappings_below (drop line_bytes left) in
        let l = lines-on left some e in
        let s = line-shown left mp (sym e) in
        let f = first_fits words (length m₀) mp ls (rw l at k.fits) in
        record {
          ordered = s.ordered;
          there = f.there;
          reach = omega (arith, f.reach, k.size);
          complete = s.complete;
          next = λ n q.
              record {
                size = ap length q ∙ overwrite-length m mp.target (words_between words mp.first mp.last) (omega (arith, f.reach, k.size)) ∙ k.size;
                fits = f.later;
                same = rw q (placed_on words m (length m₀) mp ls f.later ∙ ap (placed_mappings words m) (sym l) ∙ k.same);
              };
        }

    pub storing-line : {mp : Mapping} → (get_or left 0 0 ≡ line_feed → ⊥) → mp ≡ mapping_at left → LineFits words lines m₀ left m mp
    storing-line d e =
        rw e (
        ⊎_elim line-stored (λ b. absurd (subst (Fits words (length m₀)) (lines-on left some b) k.fits))
        (front-other left some d))

    pub line-complete : (get_or left 0 0 ≡ line_feed → ⊥) → line_bytes ≤ length left
    line-complete d = (storing-line d refl).complete
