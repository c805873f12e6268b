-- Which texts are taken: reading inverts printing, and a text that is read is a printed one.
use Prim.Native.Nat.{ℕ, zero, suc, ◌+◌, ◌*◌, ◌/◌, ◌%◌, ◌<◌, ◌≤◌}
use mathlib.Core.Path.{◌≡◌, refl, sym, ap, subst, ◌∙◌}
use mathlib.Core.Bool.{Bool, true, false, cond}
use mathlib.Core.List.{List, [], ◌∷◌, ◌++◌}
use native.Mathlib.Omega.{arith}
use lib.ListN.{length, get_or, drop, length-drop, length-append}
use lib.Seq.{drop_at}
use borrow.Author.Tests.{le-ltb}
use Rattle.refusal.specs.declared.Refusal.TheVariants.{MemoryTooLong, PastMemory, MissingFileWords}
use Rattle.refusal.specs.Report.{Report, refused, answered}
use Rattle.refusal.proofs.ReportLaws.{no_answer, same_answer}
use Rattle.memory.specs.Memory.{too_long}
use Rattle.word.proofs.Choice.{cond-false}
use Rattle.text.specs.Text.{digit_of, hex_of, digit_value, line_feed}
use Rattle.text.proofs.Digits.{digit-laws}
use Rattle.bigendian.specs.Numbers.{all_words}
use Rattle.records.specs.Records.{all_within}
use Rattle.records.specs.Loading.{refuse_load, accept_load}
use Rattle.pair.specs.declared.line.Mapping.{Mapping}
use Rattle.std.proofs.Common.{Option, None, Some, Result, Ok, Err}
use Rattle.refusal.specs.declared.Refusal.{Refusal}
use Rattle.pair.specs.Format.{head_line, mapping_line, line_bytes, Item, blank, mapping, items_text, mapping_text, mappings_in}
use Rattle.pair.specs.Read.{number_at, mapping_at, begins_with, front_of, Mappings, listed, malformed, with_mapping, mappings_below, mappings_of}
use Rattle.pair.specs.Load.{mapped_records, has_its_words, lines_tested, load_pair_of}
use Rattle.pair.specs.Laws.{InDigits, ReadsPrinted, GoodItems, GoodText, TakesTexts}
use Rattle.pair.proofs.FrontLaws.{begins-with, begins-is, line-length, front-blank, front-line}
use Rattle.pair.proofs.LinesLaws.{line-shown, blank-shown, lines_end, lines-on}
use Rattle.pair.proofs.LoadLaws.{records-count}

-- the digits of a number give it back
number-back : (w : ℕ) → w < 65536
    → digit_value (digit_of (w / 0x1000 % 16)) * 0x1000 + digit_value (digit_of (w / 0x100 % 16)) * 0x100 + digit_value (digit_of (w / 0x10 % 16)) * 0x10 + digit_value (digit_of (w % 16)) ≡ w
number-back w h =
    let a = digit-laws.back (w / 0x1000 % 16) (omega arith) in
    let b = digit-laws.back (w / 0x100 % 16) (omega arith) in
    let c = digit-laws.back (w / 0x10 % 16) (omega arith) in
    let d = digit-laws.back (w % 16) (omega arith) in
    let e : w / 0x10 / 16 ≡ w / 0x100 = omega arith in
    let f : w / 0x100 / 16 ≡ w / 0x1000 = omega arith in
    let g : w / 0x1000 % 16 ≡ w / 0x1000 = omega arith in
    rw (a, b, c, d, g) (omega arith)

pub reads-printed : ReadsPrinted
unfolding number_at mapping_line hex_of
reads-printed m k rest =
    λ i. record { first = number-back m.first k.0 i; last = number-back m.last k.1 i; target = number-back m.target k.2 i }

-- four digits are below 65,536
number-low : (text : List ℕ) (i : ℕ) → number_at text i < 65536
unfolding number_at
number-low text i =
    omega (arith, digit-laws.low (get_or text i 0), digit-laws.low (get_or text (i + 1) 0), digit-laws.low (get_or text (i + 2) 0), digit-laws.low (get_or text (i + 3) 0))

in-digits : (text : List ℕ) (m : Mapping) → mapping_at text ≡ m → InDigits m
in-digits text m e = rw (sym e) (number-low text 1, number-low text 9, number-low text 17)

-- a printed line is no empty one
not-blank : (m : Mapping) (rest : List ℕ) → get_or (mapping_line m ++ rest) 0 0 ≡ line_feed → ⊥
unfolding mapping_line
not-blank m rest e = omega arith

-- a printed line at the front is read as its mapping
printed-front : (m : Mapping) → InDigits m → m.first ≤ m.last → (rest : List ℕ) → Ok (Some m) ≡ front_of (mapping_line m ++ rest)
printed-front m k o rest =
    let t = mapping_line m ++ rest in
    let some : 0 < length t = omega (arith, line-length m, length-append (mapping_line m) rest) in
    subst (λ (q : Mapping). q.first ≤ q.last → begins_with t (mapping_line q) ≡ true → Ok (Some q) ≡ front_of t) (reads-printed m k rest)
    (front-line t some (not-blank m rest)) o (begins-with (mapping_line m) rest)

-- The lines of good items are their mappings.
pub items-lines : (is : List Item) → GoodItems is → mappings_below (items_text is) ≡ listed (mappings_in is)
items-lines [] k = lines_end [] refl
items-lines (blank ∷ is) k =
    let t = line_feed ∷ items_text is in
    lines-on t (omega arith) (front-blank t (omega arith) refl) ∙ items-lines is k.1
items-lines (mapping m ∷ is) k =
    let t = mapping_line m ++ items_text is in
    lines-on t (omega (arith, line-length m, length-append (mapping_line m) (items_text is))) (printed-front m k.0.0 k.0.1 (items_text is))
    ∙ ap (λ (l : List ℕ). with_mapping m (mappings_below l)) (drop_at (mapping_line m) (items_text is) line_bytes (line-length m))
    ∙ ap (with_mapping m) (items-lines is k.1)

pub text-mappings : (is : List Item) → GoodItems is → mappings_of (mapping_text is) ≡ listed (mappings_in is)
unfolding mappings_of
text-mappings is k = items-lines is k

-- Mappings that are read are good items.
record Itemised (text : List ℕ) : Type 0 where
  items : List Item
  good : GoodItems items
  is : text ≡ items_text items

-- the lines behind a mapping's line
behind : (m : Mapping) (ls : Mappings) (ms : List Mapping) → with_mapping m ls ≡ listed ms → (qs : List Mapping) × (ls ≡ listed qs)
behind m (listed qs) ms e = (qs, refl)
behind m malformed ms e = let z : ◌≡◌ {A = ℕ} 0 1 = cc in absurd (omega arith)

lines-items : (n : ℕ) (text : List ℕ) → length text ≤ n → (ms : List Mapping) → mappings_below text ≡ listed ms → Itemised text
lines-items zero [] h ms e = record { items = []; good = tt; is = refl }
lines-items zero (b ∷ text) h ms e = absurd (omega arith)
lines-items (suc n) [] h ms e = record { items = []; good = tt; is = refl }
lines-items (suc n) (b ∷ text) h ms e =
    go (front_of (b ∷ text)) refl (lines-items n text (omega arith)) (lines-items n (drop line_bytes (b ∷ text)) (omega (arith, length-drop line_bytes (b ∷ text))))
  where
    go : (f : Result (Option Mapping) Refusal) → front_of (b ∷ text) ≡ f → ((ms : List Mapping) → mappings_below text ≡ listed ms → Itemised text)
        → ((ms : List Mapping) → mappings_below (drop line_bytes (b ∷ text)) ≡ listed ms → Itemised (drop line_bytes (b ∷ text))) → Itemised (b ∷ text)
    go (Ok None) g on past =
        let l = lines-on (b ∷ text) (omega arith) (sym g) in
        let k = on ms (sym l ∙ e) in
        record { items = blank ∷ k.items; good = (tt, k.good); is = blank-shown (b ∷ text) g ∙ ap (λ (t : List ℕ). line_feed ∷ t) k.is }
    go (Ok (Some m)) g on past =
        let l = lines-on (b ∷ text) (omega arith) (sym g) in
        let s = line-shown (b ∷ text) m g in
        let q = behind m (mappings_below (drop line_bytes (b ∷ text))) ms (sym l ∙ e) in
        let k = past q.0 q.1 in
        record {
          items = mapping m ∷ k.items;
          good = ((in-digits (b ∷ text) m s.read, s.ordered), k.good);
          is = s.is ∙ ap (λ (t : List ℕ). mapping_line m ++ t) k.is;
        }
    go (Err r) g on past =
        let l = lines-on (b ∷ text) (omega arith) (sym g) in
        let z : ◌≡◌ {A = ℕ} 0 1 = cc in
        absurd (omega arith)

mappings-items : (cfg : List ℕ) (ms : List Mapping) → mappings_of cfg ≡ listed ms → GoodText cfg
unfolding mappings_of
mappings-items cfg ms = go (begins_with cfg head_line) refl
  where
    go : (t : Bool) → begins_with cfg head_line ≡ t → cond t (mappings_below (drop (length head_line) cfg)) malformed ≡ listed ms → GoodText cfg
    go true s e =
        let k = lines-items (length (drop (length head_line) cfg)) (drop (length head_line) cfg) (omega arith) ms e in
        record { items = k.items; good = k.good; is = begins-is cfg head_line s ∙ ap (λ (t : List ℕ). head_line ++ t) k.is }
    go false s e = let z : ◌≡◌ {A = ℕ} 0 1 = cc in absurd (omega arith)

-- a refusal's number is its own
pub same_number : {A : Type 0} {a b : ℕ} → ◌≡◌ {A = Report A} (refused a) (refused b) → a ≡ b
same_number e = cc

-- Of good lines the answer is no 15, and counts them.
module _ (m bin : List ℕ) (ms : List Mapping) where
  tested-other : (lines_tested m bin (listed ms)).answer ≡ refused 15 → ⊥
  tested-other = go (has_its_words bin ms) (all_within (length m) (mapped_records (all_words bin) ms))
    where
      go : (u v : Bool) → (cond u (cond v (accept_load m (mapped_records (all_words bin) ms)) (refuse_load m PastMemory)) (refuse_load m MissingFileWords)).answer ≡ refused 15 → ⊥
      go true true e = no_answer (sym e)
      go true false e = let z : ◌≡◌ {A = ℕ} 11 15 = same_number e in omega arith
      go false v e = let z : ◌≡◌ {A = ℕ} 16 15 = same_number e in omega arith

  tested-counts : (n : ℕ) → (lines_tested m bin (listed ms)).answer ≡ answered n → n ≡ length ms
  tested-counts n = go (has_its_words bin ms) (all_within (length m) (mapped_records (all_words bin) ms))
    where
      go : (u v : Bool) → (cond u (cond v (accept_load m (mapped_records (all_words bin) ms)) (refuse_load m PastMemory)) (refuse_load m MissingFileWords)).answer ≡ answered n → n ≡ length ms
      go true true e = sym (same_answer e) ∙ records-count (all_words bin) ms
      go true false e = no_answer e
      go false v e = no_answer e

-- the reader past the memory's length
module _ (m bin cfg : List ℕ) where
  by_lines : length m ≤ 65536 → load_pair_of m bin cfg ≡ lines_tested m bin (mappings_of cfg)
  unfolding load_pair_of
  by_lines h = cond-false _ _ (le-ltb 65536 (length m) h)

  good_taken : length m ≤ 65536 → GoodText cfg → (load_pair_of m bin cfg).answer ≡ refused 15 → ⊥
  good_taken h t e =
      let l = ap mappings_of t.is ∙ text-mappings t.items t.good in
      tested-other m bin (mappings_in t.items) (rw (by_lines h, l) at e)

  taken_good : length m ≤ 65536 → ((load_pair_of m bin cfg).answer ≡ refused 15 → ⊥) → GoodText cfg
  taken_good h d = go (mappings_of cfg) refl
    where
      go : (ls : Mappings) → mappings_of cfg ≡ ls → GoodText cfg
      go (listed ms) e = mappings-items cfg ms e
      go malformed e = absurd (d (rw (by_lines h, e)))

  counted : (t : GoodText cfg) (n : ℕ) → (load_pair_of m bin cfg).answer ≡ answered n → n ≡ length (mappings_in t.items)
  unfolding load_pair_of
  counted t n = go (too_long m)
    where
      l : mappings_of cfg ≡ listed (mappings_in t.items)
      l = ap mappings_of t.is ∙ text-mappings t.items t.good

      go : (u : Bool) → (cond u (refuse_load m MemoryTooLong) (lines_tested m bin (mappings_of cfg))).answer ≡ answered n → n ≡ length (mappings_in t.items)
      go true e = no_answer e
      go false e = tested-counts m bin (mappings_in t.items) n (rw l at e)

pub takes-texts : TakesTexts
takes-texts = record { good_taken = good_taken; taken_good = taken_good; counted = counted }
