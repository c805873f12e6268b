-- Laws of the scan of a region: what it names is what the region's law says, of every address or of a set's members.
use Prim.Native.Nat.{ℕ, zero, suc, ◌+◌, ◌-◌, ◌<◌, ◌≤◌}
use mathlib.Core.Path.{◌≡◌, refl, ap, sym, ◌∙◌}
use mathlib.Core.Logic.{◌⊎◌, inl, inr, ⊎_elim, ◌↔◌}
use mathlib.Core.Bool.{Bool, true, false, cond}
use native.Mathlib.Nat.{le_of_eq}
use native.Mathlib.Decide.{dec_lt}
use native.Mathlib.Omega.{arith}
use lib.Dec.{ltb}
use borrow.Author.Tests.{ltb-true, ltb-false}
use Rattle.word.proofs.Choice.{cond_either}
use Rattle.meter.specs.Answer.{Answer, wait, over, halts, unspecified, Longest, no_wait, longest, Lowest, no_over, over_at}
use Rattle.meter.specs.Scan.{longer_than, longer_of, lower_than, lower_of, longest_by, lowest_by}
use Rattle.meter.specs.Meter.{named_of}
use Rattle.meter.specs.Laws.{StartIn, LongestIs, LowestIs, NamedIs, SameStarts}

-- one address more, e: what the starts before it name, and its own answer if it is one
module _ (Member : ℕ → Type 0) (answers : ℕ → Answer) (first e : ℕ) (low : first ≤ e) where
  further : {s : ℕ} → StartIn Member first e s → StartIn Member first (suc e) s
  further p = record { from = p.from; to = omega (arith, p.to); member = p.member }

  the_last : Member e → StartIn Member first (suc e) e
  the_last m = record { from = low; to = omega arith; member = m }

  -- a start before it, or itself
  before-or-last : {s : ℕ} → StartIn Member first (suc e) s → StartIn Member first e s ⊎ (Member e × (s ≡ e))
  before-or-last {s} p = by (dec_lt s e)
    where
      by : Dec (s < e) → StartIn Member first e s ⊎ (Member e × (s ≡ e))
      by (yes q) = inl (record { from = p.from; to = q; member = p.member })
      by (no q) = let t : s ≡ e = omega (arith, p.to) in inr (rw t at p.member, t)

  -- one that is no start, or that has no wait, changes nothing
  longest-same : (l : Longest) → (Member e → (w : ℕ) → answers e ≡ wait w → ⊥) → LongestIs Member answers first e l → LongestIs Member answers first (suc e) l
  longest-same no_wait n h = λ s w p k. ⊎_elim (λ t. h s w t k) (λ t. n t.0 w (ap answers (sym t.1) ∙ k)) (before-or-last p)
  longest-same (longest v at) n h =
      record {
        start_is = further h.start_is;
        waits = h.waits;
        others = λ s w p k. ⊎_elim (λ t. h.others s w t k) (λ t. absurd (n t.0 w (ap answers (sym t.1) ∙ k))) (before-or-last p);
        lower = h.lower;
      }

  longest_wait : (l : Longest) (w : ℕ) → Member e → answers e ≡ wait w → LongestIs Member answers first e l → LongestIs Member answers first (suc e) (longer_than l w e)
  unfolding longer_than
  longest_wait no_wait w m q h =
      record {
        start_is = the_last m;
        waits = q;
        others = λ s v p k. ⊎_elim (λ t. absurd (h s v t k)) (λ t. le_of_eq (same (ap answers (sym t.1) ∙ k))) (before-or-last p);
        lower = λ s v p k. absurd (h s v p k);
      }
    where
      same : {v : ℕ} → answers e ≡ wait v → v ≡ w
      same k = cc
  longest_wait (longest v at) w m q h = cond_either (LongestIs Member answers first (suc e)) (ltb v w) longer kept
    where
      same : {u : ℕ} → answers e ≡ wait u → u ≡ w
      same k = cc

      longer : ltb v w ≡ true → LongestIs Member answers first (suc e) (longest w e)
      longer b =
          let j = ltb-true v w b in
          record {
            start_is = the_last m;
            waits = q;
            others = λ s u p k. ⊎_elim (λ t. let y = h.others s u t k in omega arith) (λ t. le_of_eq (same (ap answers (sym t.1) ∙ k))) (before-or-last p);
            lower = λ s u p k. let y = h.others s u p k in omega arith;
          }

      kept : ltb v w ≡ false → LongestIs Member answers first (suc e) (longest v at)
      kept b =
          let j = ltb-false v w b in
          record {
            start_is = further h.start_is;
            waits = h.waits;
            others = λ s u p k. ⊎_elim (λ t. h.others s u t k) (λ t. let y = same (ap answers (sym t.1) ∙ k) in omega arith) (before-or-last p);
            lower = h.lower;
          }

  longest-next : (l : Longest) (x : Answer) → Member e → answers e ≡ x → LongestIs Member answers first e l → LongestIs Member answers first (suc e) (longer_of l x e)
  longest-next l (wait w) m q h = longest_wait l w m q h
  longest-next l over m q h = longest-same l (λ i w k. cc) h
  longest-next l halts m q h = longest-same l (λ i w k. cc) h
  longest-next l (unspecified a) m q h = longest-same l (λ i w k. cc) h

  lowest-same : (o : Lowest) → (Member e → answers e ≡ over → ⊥) → LowestIs Member answers first e o → LowestIs Member answers first (suc e) o
  lowest-same no_over n h = λ s p k. ⊎_elim (λ t. h s t k) (λ t. n t.0 (ap answers (sym t.1) ∙ k)) (before-or-last p)
  lowest-same (over_at at) n h =
      record {
        start_is = further h.start_is;
        exceeds = h.exceeds;
        lowest = λ s p k. ⊎_elim (λ t. h.lowest s t k) (λ t. absurd (n t.0 (ap answers (sym t.1) ∙ k))) (before-or-last p);
      }

  lowest_over : (o : Lowest) → Member e → answers e ≡ over → LowestIs Member answers first e o → LowestIs Member answers first (suc e) (lower_than o e)
  unfolding lower_than
  lowest_over no_over m q h =
      record {
        start_is = the_last m;
        exceeds = q;
        lowest = λ s p k. ⊎_elim (λ t. absurd (h s t k)) (λ t. omega (arith, t.1)) (before-or-last p);
      }
  lowest_over (over_at at) m q h =
      record {
        start_is = further h.start_is;
        exceeds = h.exceeds;
        lowest = λ s p k. ⊎_elim (λ t. h.lowest s t k) (λ t. omega (arith, t.1, h.start_is.to)) (before-or-last p);
      }

  lowest-next : (o : Lowest) (x : Answer) → Member e → answers e ≡ x → LowestIs Member answers first e o → LowestIs Member answers first (suc e) (lower_of o x e)
  lowest-next o (wait w) m q h = lowest-same o (λ i k. cc) h
  lowest-next o over m q h = lowest_over o m q h
  lowest-next o halts m q h = lowest-same o (λ i k. cc) h
  lowest-next o (unspecified a) m q h = lowest-same o (λ i k. cc) h

-- no address is one of a set and not
not-both : {b : Bool} → b ≡ true → b ≡ false → ⊥
not-both p q = cc

module _ (is_start : ℕ → Bool) (answers : ℕ → Answer) (first : ℕ) where
  -- the starts among the n addresses from first on
  longest-law : (n : ℕ) → LongestIs (λ a. is_start a ≡ true) answers first (first + n) (longest_by n is_start answers first)
  unfolding longest_by
  longest-law zero = λ s w p k. omega (arith, p.from, p.to)
  longest-law (suc n) =
      let e : first + suc n ≡ suc (first + n) = omega arith in
      rw e
      (cond_either (LongestIs (λ a. is_start a ≡ true) answers first (suc (first + n))) (is_start (first + n))
      (λ m. longest-next _ answers first (first + n) (omega arith) (longest_by n is_start answers first) (answers (first + n)) m refl (longest-law n))
      (λ q. longest-same _ answers first (first + n) (omega arith) (longest_by n is_start answers first) (λ m w k. not-both m q) (longest-law n)))

  lowest-law : (n : ℕ) → LowestIs (λ a. is_start a ≡ true) answers first (first + n) (lowest_by n is_start answers first)
  unfolding lowest_by
  lowest-law zero = λ s p k. omega (arith, p.from, p.to)
  lowest-law (suc n) =
      let e : first + suc n ≡ suc (first + n) = omega arith in
      rw e
      (cond_either (LowestIs (λ a. is_start a ≡ true) answers first (suc (first + n))) (is_start (first + n))
      (λ m. lowest-next _ answers first (first + n) (omega arith) (lowest_by n is_start answers first) (answers (first + n)) m refl (lowest-law n))
      (λ q. lowest-same _ answers first (first + n) (omega arith) (lowest_by n is_start answers first) (λ m k. not-both m q) (lowest-law n)))

  -- what the starts from first to last name is what it should be
  pub named-law : (last : ℕ) → first ≤ last → NamedIs (λ a. is_start a ≡ true) answers first (suc last) (named_of is_start answers first last)
  unfolding named_of
  named-law last h =
      let j : first + (suc last - first) ≡ suc last = omega arith in
      record { longest_is = rw j at (longest-law (suc last - first)); lowest_is = rw j at (lowest-law (suc last - first)) }

-- two sets that agree among the n addresses from first on, with answers that agree at their starts
pub record AgreeOn (is_start is_start' : ℕ → Bool) (answers answers' : ℕ → Answer) (a : ℕ) : Type 0 where
  pub starts : is_start a ≡ is_start' a
  pub alike : is_start a ≡ true → answers a ≡ answers' a

module _ (is_start is_start' : ℕ → Bool) (answers answers' : ℕ → Answer) (first : ℕ) where
  -- one address more, by what it adds to what is named where it is a start
  next_agree : {A : Type 0} (add : A → Answer → ℕ → A) {l l' : A} (a : ℕ) → AgreeOn is_start is_start' answers answers' a → l ≡ l' →
      cond (is_start a) (add l (answers a) a) l ≡ cond (is_start' a) (add l' (answers' a) a) l'
  next_agree add {l} {l'} a k e =
      rw (e, ← k.starts) (cond_either (λ x. x ≡ cond (is_start a) (add l' (answers' a) a) l') (is_start a) (λ t. rw (t, k.alike t)) (λ t. rw t))

  longest-agree : (n : ℕ) → ((a : ℕ) → first ≤ a → a < first + n → AgreeOn is_start is_start' answers answers' a) → longest_by n is_start answers first ≡ longest_by n is_start' answers' first
  unfolding longest_by
  longest-agree zero h = refl
  longest-agree (suc n) h = next_agree longer_of (first + n) (h (first + n) (omega arith) (omega arith)) (longest-agree n (λ a p q. h a p (omega arith)))

  lowest-agree : (n : ℕ) → ((a : ℕ) → first ≤ a → a < first + n → AgreeOn is_start is_start' answers answers' a) → lowest_by n is_start answers first ≡ lowest_by n is_start' answers' first
  unfolding lowest_by
  lowest-agree zero h = refl
  lowest-agree (suc n) h = next_agree lower_of (first + n) (h (first + n) (omega arith) (omega arith)) (lowest-agree n (λ a p q. h a p (omega arith)))

  pub named-agree : (last : ℕ) → first ≤ last → ((a : ℕ) → first ≤ a → a ≤ last → AgreeOn is_start is_start' answers answers' a) → named_of is_start answers first last ≡ named_of is_start' answers' first last
  unfolding named_of
  named-agree last low h =
      let k : (a : ℕ) → first ≤ a → a < first + (suc last - first) → AgreeOn is_start is_start' answers answers' a = λ a p q. h a p (omega arith) in
      rw (longest-agree (suc last - first) k, lowest-agree (suc last - first) k)

-- by other words for which addresses are starts
module _ (Member Member' : ℕ → Type 0) (same : (a : ℕ) → Member a ↔ Member' a) (answers : ℕ → Answer) (first : ℕ) where
  there : {end s : ℕ} → StartIn Member first end s → StartIn Member' first end s
  there {s = s} p = record { from = p.from; to = p.to; member = (same s).0 p.member }

  back : {end s : ℕ} → StartIn Member' first end s → StartIn Member first end s
  back {s = s} p = record { from = p.from; to = p.to; member = (same s).1 p.member }

  longest-alike : (end : ℕ) (l : Longest) → LongestIs Member answers first end l → LongestIs Member' answers first end l
  longest-alike end no_wait h = λ s w p k. h s w (back p) k
  longest-alike end (longest v at) h =
      record { start_is = there h.start_is; waits = h.waits; others = λ s w p k. h.others s w (back p) k; lower = λ s w p k. h.lower s w (back p) k }

  lowest-alike : (end : ℕ) (o : Lowest) → LowestIs Member answers first end o → LowestIs Member' answers first end o
  lowest-alike end no_over h = λ s p k. h s (back p) k
  lowest-alike end (over_at at) h = record { start_is = there h.start_is; exceeds = h.exceeds; lowest = λ s p k. h.lowest s (back p) k }

pub same-starts : SameStarts
same-starts M M' same answers first end n h =
    record {
      longest_is = longest-alike M M' same answers first end n.longest_wait h.longest_is;
      lowest_is = lowest-alike M M' same answers first end n.lowest_over h.lowest_is;
    }
