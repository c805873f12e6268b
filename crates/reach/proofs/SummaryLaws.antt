-- Writers of R7 by address, a node of one D or the other; and the summary by their set.
use Prim.Native.Nat.{ℕ}
use mathlib.Core.Path.{◌≡◌, refl, sym, ◌∙◌}
use mathlib.Core.Bool.{Bool, true, false, ◌&&◌, ◌||◌, true≢false}
use mathlib.Core.List.{List}
use Rattle.bitset.specs.Bits.{contains, in_either, count_below, LowestOrNone, lowest_below}
use Rattle.bitset.proofs.CountLaws.{count_same}
use Rattle.bitset.proofs.LowestLaws.{lowest-same}
use Rattle.reach.specs.Ways.{node_at, writes_at}
use Rattle.reach.specs.Summary.{writes_in, is_writer, SetSummary, summary_of}
use Rattle.reach.specs.Inner.Explore.{marked, Noted, HoldsWriters}

pub same_bool : (b c : Bool) → (b ≡ true → c ≡ true) → (c ≡ true → b ≡ true) → b ≡ c
same_bool true c p q = sym (p refl)
same_bool false true p q = q refl
same_bool false false p q = refl

pub or-true : (b c : Bool) → c ≡ true → (b || c) ≡ true
or-true true c h = refl
or-true false c h = h

-- both of two
both : {b c : Bool} → b ≡ true → c ≡ true → (b && c) ≡ true
both {b} {c} p q = rw (p, q)

split-and : (b c : Bool) → (b && c) ≡ true → (b ≡ true) × (c ≡ true)
split-and true c h = (refl, h)
split-and false c h = absurd (true≢false (sym h))

module _ (read : ℕ → ℕ) (clear set : List ℕ) (a : ℕ) where
  pub writer-is : (d : Bool) → marked clear set (node_at a d) ≡ true → writes_at read (node_at a d) ≡ true → is_writer read clear set a ≡ true
  unfolding is_writer writes_in
  writer-is false m w = rw (both m w)
  writer-is true m w = or-true (contains clear a && writes_at read (node_at a false)) _ (both m w)

  pub is-writer : is_writer read clear set a ≡ true → Noted read clear set a
  unfolding is_writer writes_in
  is-writer h = go (contains clear a && writes_at read (node_at a false)) refl h
    where
      go : (b : Bool) → (contains clear a && writes_at read (node_at a false)) ≡ b → (b || (contains set a && writes_at read (node_at a true))) ≡ true → Noted read clear set a
      go true e q = let s = split-and (contains clear a) (writes_at read (node_at a false)) e in (false, s.0, s.1)
      go false e q = let s = split-and (contains set a) (writes_at read (node_at a true)) q in (true, s.0, s.1)

-- the summary of a set, by the counts of its buffers and of its writers
pub summary-is :
    (read : ℕ → ℕ) (clear set writers : List ℕ) {n m : ℕ} {l : LowestOrNone} → HoldsWriters read clear set writers → n ≡ count_below (in_either clear set) 65536 →
    m ≡ count_below (in_either writers writers) 65536 → l ≡ lowest_below (contains writers) 65536 →
    ◌≡◌ {A = SetSummary} (record { addresses = n; writers = m; lowest_writer = l }) (summary_of read clear set)
unfolding summary_of
summary-is read clear set writers {n} {m} {l} h p q r =
    let e : m ≡ count_below (is_writer read clear set) 65536 = q ∙ count_same _ _ 65536 (λ a i. or_same (contains writers a) ∙ h a) in
    let f : l ≡ lowest_below (is_writer read clear set) 65536 = r ∙ lowest-same _ _ 65536 h in
    λ i. record { addresses = p i; writers = e i; lowest_writer = f i }
  where
    or_same : (b : Bool) → (b || b) ≡ b
    or_same true = refl
    or_same false = refl
