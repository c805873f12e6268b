-- The laws of a region's words cut into records.
use Prim.Native.Nat.{ℕ, zero, suc, min, ◌+◌, ◌-◌, ◌/◌, ◌<◌, ◌≤◌}
use mathlib.Core.Path.{◌≡◌, refl, sym, ap, ◌∙◌}
use mathlib.Core.Bool.{Bool, true, false, cond}
use mathlib.Core.List.{List, [], ◌∷◌}
use native.Mathlib.Omega.{arith}
use native.Mathlib.Decide.{dec_le}
use native.Mathlib.Nat.{add-div_right, div-eq_of_lt}
use borrow.Author.Tests.{eq-eqb, ne_eqb, eqb-true, eqb-false, leb-true, le-leb}
use lib.Dec.{eqb}
use lib.ListN.{length, take, drop, length-take, length-drop, take-append-drop}
use Rattle.word.proofs.Choice.{cond-true, cond-false}
use Rattle.records.specs.Records.{Record, record_over, is_within, all_within, overwrite, placed}
use Rattle.records.specs.Cut.{cut_from, cut_of, record_count}
use Rattle.records.specs.Laws.{Sized, CutLaws}
use Rattle.records.proofs.OverLaws.{overwrite-length, overwrite-nil, overwrite-split}
use Rattle.records.proofs.PlacedLaws.{split}

-- One record more, for a full one and for a shorter one at the end.
count-full : (limit n : ℕ) → 0 < limit → limit ≤ n → record_count limit (n - limit) + 1 ≡ record_count limit n
count-full limit n p h =
    let e : n - limit + (limit - 1) + limit ≡ n + (limit - 1) = omega arith in
    sym (add-div_right (n - limit + (limit - 1)) p) ∙ ap (λ (x : ℕ). x / limit) e

count_none : (limit : ℕ) → 0 < limit → record_count limit 0 ≡ 0
count_none limit p = div-eq_of_lt (omega arith)

count-short : (limit n : ℕ) → 0 < n → n ≤ limit → record_count limit n ≡ 1
count-short limit n p h =
    let e : n + (limit - 1) ≡ n - 1 + limit = omega arith in
    ap (λ (x : ℕ). x / limit) e ∙ add-div_right (n - 1) (omega arith) ∙ ap (λ (x : ℕ). x + 1) (div-eq_of_lt (omega arith))

-- The cut by at most n records, where n records suffice. Each law is by the test whether words are left.
module _ (limit : ℕ) (p : 0 < limit) where
  cut-from-none : (n a : ℕ) (ws : List ℕ) → length ws ≡ 0 → cut_from n limit a ws ≡ []
  cut-from-none zero a ws h = refl
  cut-from-none (suc n) a ws h = cond-true _ _ (eq-eqb _ _ h)

  -- any count that suffices gives the same cut
  cut-more : (n k a : ℕ) (ws : List ℕ) → length ws ≤ n → length ws ≤ k → cut_from n limit a ws ≡ cut_from k limit a ws
  cut-more zero k a ws h l = sym (cut-from-none k a ws (omega arith))
  cut-more (suc n) zero a ws h l = cut-from-none (suc n) a ws (omega arith)
  cut-more (suc n) (suc k) a ws h l =
      go (eqb (length ws) 0) refl (cut-more n k (a + length (take limit ws)) (drop limit ws))
    where
      rest : ℕ → List Record
      rest i = cut_from i limit (a + length (take limit ws)) (drop limit ws)

      go : (t : Bool) → eqb (length ws) 0 ≡ t → (length (drop limit ws) ≤ n → length (drop limit ws) ≤ k → rest n ≡ rest k)
          → cond t [] (record_over a (take limit ws) ∷ rest n) ≡ cond t [] (record_over a (take limit ws) ∷ rest k)
      go true e ih = refl
      go false e ih =
          let ne = eqb-false (length ws) 0 e in
          let ld = length-drop limit ws in
          ap (λ (rs : List Record). record_over a (take limit ws) ∷ rs) (ih (omega arith) (omega arith))

  equation : (a : ℕ) (ws : List ℕ)
      → cut_of limit a ws ≡ cond (eqb (length ws) 0) [] (record_over a (take limit ws) ∷ cut_of limit (a + length (take limit ws)) (drop limit ws))
  unfolding cut_of
  equation a ws =
      cut-more (length ws) (suc (length ws)) a ws (omega arith) (omega arith)
      ∙ go (eqb (length ws) 0) refl
    where
      next : ℕ
      next = a + length (take limit ws)

      left : List ℕ
      left = drop limit ws

      go : (t : Bool) → eqb (length ws) 0 ≡ t
          → cond t [] (record_over a (take limit ws) ∷ cut_from (length ws) limit next left) ≡ cond t [] (record_over a (take limit ws) ∷ cut_from (length left) limit next left)
      go true e = refl
      go false e =
          let ld = length-drop limit ws in
          ap (λ (rs : List Record). record_over a (take limit ws) ∷ rs) (cut-more (length ws) (length left) next left (omega arith) (omega arith))

  pub cut-none : (a : ℕ) (ws : List ℕ) → length ws ≡ 0 → cut_of limit a ws ≡ []
  unfolding cut_of
  cut-none a ws h = cut-from-none (length ws) a ws h

  pub cut-some : (a : ℕ) (ws : List ℕ) → 0 < length ws
      → cut_of limit a ws ≡ record_over a (take limit ws) ∷ cut_of limit (a + length (take limit ws)) (drop limit ws)
  cut-some a ws h = equation a ws ∙ cond-false _ _ (ne_eqb (length ws) 0 (λ e. omega arith))

  -- What holds of no records, and of a first record and the others if it holds of these, holds of every cut.
  module _ (P : ℕ → List ℕ → List Record → Type 0) (none : (a : ℕ) (ws : List ℕ) → length ws ≡ 0 → P a ws [])
      (some : (a : ℕ) (ws : List ℕ) (rs : List Record) → 0 < length ws → P (a + length (take limit ws)) (drop limit ws) rs → P a ws (record_over a (take limit ws) ∷ rs)) where
    by-turns : (n a : ℕ) (ws : List ℕ) → length ws ≤ n → P a ws (cut_from n limit a ws)
    by-turns zero a ws h = none a ws (omega arith)
    by-turns (suc n) a ws h = go (eqb (length ws) 0) refl (by-turns n (a + length (take limit ws)) (drop limit ws))
      where
        rest : List Record
        rest = cut_from n limit (a + length (take limit ws)) (drop limit ws)

        go : (t : Bool) → eqb (length ws) 0 ≡ t → (length (drop limit ws) ≤ n → P (a + length (take limit ws)) (drop limit ws) rest)
            → P a ws (cond t [] (record_over a (take limit ws) ∷ rest))
        go true e ih = none a ws (eqb-true (length ws) 0 e)
        go false e ih =
            let ne = eqb-false (length ws) 0 e in
            let ld = length-drop limit ws in
            some a ws rest (omega arith) (ih (omega arith))

    pub cut_holds : (a : ℕ) (ws : List ℕ) → P a ws (cut_of limit a ws)
    unfolding cut_of
    cut_holds a ws = by-turns (length ws) a ws (omega arith)

  sized : (a : ℕ) (ws : List ℕ) → Sized limit (cut_of limit a ws)
  sized =
      cut_holds (λ a ws rs. Sized limit rs) (λ a ws h. tt) (λ a ws rs h ih.
      let lc = length-take limit ws in
      (omega arith, omega arith, ih))

  -- one record more, full or shorter
  count-on : (ws : List ℕ) → 0 < length ws → record_count limit (length (drop limit ws)) + 1 ≡ record_count limit (length ws)
  count-on ws h = go (dec_le limit (length ws))
    where
      go : Dec (limit ≤ length ws) → record_count limit (length (drop limit ws)) + 1 ≡ record_count limit (length ws)
      go (yes l) = rw (length-drop limit ws) (count-full limit (length ws) p l)
      go (no l) =
          let e : length (drop limit ws) ≡ 0 = omega (arith, length-drop limit ws) in
          rw (e, count_none limit p, count-short limit (length ws) h (omega arith))

  count : (a : ℕ) (ws : List ℕ) → length (cut_of limit a ws) ≡ record_count limit (length ws)
  count =
      cut_holds (λ a ws rs. length rs ≡ record_count limit (length ws))
      (λ a ws h. sym (ap (record_count limit) h ∙ count_none limit p))
      (λ a ws rs h ih. omega (arith, ih, count-on ws h))

  within : (a : ℕ) (ws : List ℕ) (len : ℕ) → is_within len a (length ws) ≡ true → all_within len (cut_of limit a ws) ≡ true
  within a ws len h =
      cut_holds (λ a ws rs. a + length ws ≤ len → all_within len rs ≡ true) (λ a ws h l. refl) (λ a ws rs h ih l.
      let lc = length-take limit ws in
      let ld = length-drop limit ws in
      cond-true _ _ (le-leb (a + length (take limit ws)) len (omega arith)) ∙ ih (omega arith))
      a ws (leb-true (a + length ws) len h)

  -- records that all lie within leave no word outside
  reaches : (a : ℕ) (ws : List ℕ) (len : ℕ) → all_within len (cut_of limit a ws) ≡ true → 0 < length ws → a + length ws ≤ len
  reaches a ws len =
      cut_holds (λ a ws rs. all_within len rs ≡ true → 0 < length ws → a + length ws ≤ len) (λ a ws h e l. absurd (omega arith)) (λ a ws rs h ih e l.
      let s = split len (record_over a (take limit ws)) rs e in
      last-or-more a (length (take limit ws)) (length ws) len (length (drop limit ws)) (length-take limit ws) (length-drop limit ws) s.here (ih s.later))
      a ws
    where
      last-or-more : (a k n len d : ℕ) → k ≡ min limit n → d ≡ n - limit → a + k ≤ len → (0 < d → a + k + d ≤ len) → a + n ≤ len
      last-or-more a k n len zero p q h f = omega arith
      last-or-more a k n len (suc d) p q h f = omega (arith, f (omega arith))

  exactly : (a : ℕ) (ws : List ℕ) (len : ℕ) → 0 < length ws → all_within len (cut_of limit a ws) ≡ is_within len a (length ws)
  exactly a ws len h = go (all_within len (cut_of limit a ws)) (is_within len a (length ws)) refl refl
    where
      go : (u v : Bool) → all_within len (cut_of limit a ws) ≡ u → is_within len a (length ws) ≡ v → u ≡ v
      go true v e f = sym (le-leb (a + length ws) len (reaches a ws len e h)) ∙ f
      go false true e f = sym e ∙ within a ws len f
      go false false e f = refl

  laid : (a : ℕ) (ws m : List ℕ) → is_within (length m) a (length ws) ≡ true → placed m (cut_of limit a ws) ≡ overwrite m a ws
  laid a ws m h =
      cut_holds (λ a ws rs. (m : List ℕ) → a + length ws ≤ length m → placed m rs ≡ overwrite m a ws)
      (λ a ws e m l. overwrite-nil m a ws e (omega arith))
      (λ a ws rs e ih m l.
      let cs = take limit ws in
      let lc = length-take limit ws in
      let ld = length-drop limit ws in
      let o = overwrite-length m a cs (omega arith) in
      ih (overwrite m a cs) (omega arith)
      ∙ overwrite-split m a cs (drop limit ws) (omega arith)
      ∙ ap (overwrite m a) (take-append-drop limit ws))
      a ws m (leb-true (a + length ws) (length m) h)

pub cut-laws : CutLaws
cut-laws =
    record {
      equation = λ limit a ws p. equation limit p a ws;
      sized = λ limit a ws p. sized limit p a ws;
      count = λ limit a ws p. count limit p a ws;
      exactly = λ limit a ws len p. exactly limit p a ws len;
      within = λ limit a ws len p. within limit p a ws len;
      laid = λ limit a ws m p. laid limit p a ws m;
    }
