-- Laws of the walk: its turns by the way they go, its equation with no count, and that the meter answers it.
use Rattle.std.specs.Prelude.{Option, Some, None, Result, Ok, Err}
use Rattle.refusal.specs.declared.Refusal.{Refusal}
use Rattle.decode.specs.declared.Instr.{Instr}
use Prim.Native.Nat.{ℕ, zero, suc, ◌+◌, ◌<◌, ◌≤◌}
use mathlib.Core.Path.{◌≡◌, refl, ap, sym, ◌∙◌}
use mathlib.Core.Bool.{true, false}
use native.Mathlib.Omega.{arith}
use lib.Dec.{eqb, ltb, lit≤}
use borrow.Author.Tests.{ltb-true, ltb-false, lt-ltb, le-ltb}
use Rattle.refusal.specs.Refusals.{refusal_number}
use Rattle.refusal.specs.Report.{Report, refused, answered, UnlessRefused}
use Rattle.refusal.proofs.ReportLaws.{no_answer}
use Rattle.word.specs.Word.{wrap_add}
use Rattle.word.proofs.Choice.{cond-true, cond-false, cond_both, cond_either}
use Rattle.memory.specs.Bus.{Bus, read_of, admission_of, unless_barred}
use Rattle.memory.proofs.BusLaws.{unless-both, unless-in}
use Rattle.decode.specs.declared.rows.Row.{Row}
use Rattle.decode.specs.Decode.{decode_at}
use Rattle.decode.specs.Rows.{row_of}
use Rattle.decode.proofs.RowLaws.{row-bounds}
use Rattle.meter.specs.declared.walk.Place.{Place}
use Rattle.meter.specs.Answer.{Answer, wait, over, halts}
use Rattle.meter.specs.Walk.{limit_of, place_after, Turn, ends, goes_on, row_turn, decoded_turn, turn_at, after_turn, walk_by, walk_on, walk_from}
use Rattle.meter.specs.Meter.{answer_from, wait_of}
use Rattle.meter.specs.Laws.{WalkEquation, AnswersTheWalk}

-- a turn by what is decoded at its place
pub turn-row : (limit : ℕ) (p : Place) {x : Option Instr} {i : Instr} {row : Row} → x ≡ Some i → row ≡ row_of i p.double → decoded_turn limit p x ≡ row_turn limit p row
turn-row limit p e q = ap (decoded_turn limit p) e ∙ ap (row_turn limit p) (sym q)

-- a turn by its row
module _ (limit : ℕ) (p : Place) (row : Row) where
  pub row-over : limit < p.sum + row.cycles → row_turn limit p row ≡ ends over
  unfolding row_turn
  row-over h = cond-true _ _ (lt-ltb _ _ h)

  module _ (h : p.sum + row.cycles ≤ limit) where
    pub row-halts : row.halts ≡ true → row_turn limit p row ≡ ends halts
    unfolding row_turn
    row-halts s = cond-false _ _ (le-ltb _ _ h) ∙ cond-true _ _ s

    pub row-waits : row.halts ≡ false → row.interruptible ≡ true → row_turn limit p row ≡ ends (wait (p.sum + row.cycles))
    unfolding row_turn
    row-waits s t = cond-false _ _ (le-ltb _ _ h) ∙ cond-false _ _ s ∙ cond-true _ _ t

    pub row_goes : row.halts ≡ false → row.interruptible ≡ false → row_turn limit p row ≡ goes_on (place_after p row)
    unfolding row_turn
    row_goes s t = cond-false _ _ (le-ltb _ _ h) ∙ cond-false _ _ s ∙ cond-false _ _ t

  -- .. and what holds of each way holds of the one taken
  by_row : (P : Turn → Type 0) →
      (limit < p.sum + row.cycles → P (ends over)) →
      P (ends halts) →
      (row.halts ≡ false → row.interruptible ≡ true → P (ends (wait (p.sum + row.cycles)))) →
      (p.sum + row.cycles ≤ limit → row.halts ≡ false → row.interruptible ≡ false → P (goes_on (place_after p row))) →
      P (row_turn limit p row)
  unfolding row_turn
  by_row P above halting waiting going =
      cond_either P (ltb limit (p.sum + row.cycles)) (λ t. above (ltb-true _ _ t))
      (λ t. cond_either P row.halts (λ s. halting) (λ s. cond_either P row.interruptible (λ h. waiting s h) (λ h. going (ltb-false _ _ t) s h)))

-- what a turn that goes on says of its instruction: neither interruptible nor a halt, and within the limit; and where it leads
pub record TurnGoes (x : Option Instr) (limit : ℕ) (p q : Place) : Type 0 where
  pub instr : Instr
  pub known : x ≡ Some instr
  pub running : (row_of instr p.double).halts ≡ false
  pub uninterruptible : (row_of instr p.double).interruptible ≡ false
  pub address : q.address ≡ wrap_add p.address (row_of instr p.double).words
  pub double : q.double ≡ (row_of instr p.double).double
  pub sum : q.sum ≡ p.sum + (row_of instr p.double).cycles
  pub room : q.sum ≤ limit

-- .. one that waits: interruptible
pub record TurnWaits (x : Option Instr) (p : Place) (w : ℕ) : Type 0 where
  pub instr : Instr
  pub known : x ≡ Some instr
  pub running : (row_of instr p.double).halts ≡ false
  pub interruptible : (row_of instr p.double).interruptible ≡ true
  pub sum : w ≡ p.sum + (row_of instr p.double).cycles

-- .. one over the limit
pub record TurnExceeds (x : Option Instr) (limit : ℕ) (p : Place) : Type 0 where
  pub instr : Instr
  pub known : x ≡ Some instr
  pub above : limit < p.sum + (row_of instr p.double).cycles

-- two turns of different kinds
no-turn : {A : Type 0} {r : Answer} {p : Place} → ends r ≡ goes_on p → A
no-turn e = cc

module _ (limit : ℕ) (p : Place) where
  goes_by : (x : Option Instr) {q : Place} → decoded_turn limit p x ≡ goes_on q → TurnGoes x limit p q
  goes_by None e = no-turn e
  goes_by (Some i) {q} e =
      by_row limit p (row_of i p.double) (λ t. t ≡ goes_on q → TurnGoes (Some i) limit p q) (λ a k. no-turn k) (λ k. no-turn k) (λ s h k. no-turn k) going e
    where
      going : p.sum + (row_of i p.double).cycles ≤ limit → (row_of i p.double).halts ≡ false → (row_of i p.double).interruptible ≡ false → goes_on (place_after p (row_of i p.double)) ≡ goes_on q → TurnGoes (Some i) limit p q
      going r s h k =
          unfold place_after in
          let n : place_after p (row_of i p.double) ≡ q = cc in
          rw (← n) (record { instr = i; known = refl; running = s; uninterruptible = h; address = refl; double = refl; sum = refl; room = r })

  waits-by : (x : Option Instr) {w : ℕ} → decoded_turn limit p x ≡ ends (wait w) → TurnWaits x p w
  waits-by None e = cc
  waits-by (Some i) {w} e =
      by_row limit p (row_of i p.double) (λ t. t ≡ ends (wait w) → TurnWaits (Some i) p w)
      (λ a k. cc)
      (λ k. cc)
      (λ s h k. record { instr = i; known = refl; running = s; interruptible = h; sum = cc })
      (λ r s h k. no-turn (sym k))
      e

  exceeds-by : (x : Option Instr) → decoded_turn limit p x ≡ ends over → TurnExceeds x limit p
  exceeds-by None e = cc
  exceeds-by (Some i) e =
      by_row limit p (row_of i p.double) (λ t. t ≡ ends over → TurnExceeds (Some i) limit p)
      (λ a k. record { instr = i; known = refl; above = a })
      (λ k. cc)
      (λ s h k. cc)
      (λ r s h k. no-turn (sym k))
      e

module _ (read : ℕ → ℕ) (limit : ℕ) (p : Place) where
  pub turn-goes : {q : Place} → turn_at read limit p ≡ goes_on q → TurnGoes (decode_at read p.address p.double) limit p q
  unfolding turn_at
  turn-goes e = goes_by limit p (decode_at read p.address p.double) e

  pub turn-waits : {w : ℕ} → turn_at read limit p ≡ ends (wait w) → TurnWaits (decode_at read p.address p.double) p w
  unfolding turn_at
  turn-waits e = waits-by limit p (decode_at read p.address p.double) e

  pub turn-exceeds : turn_at read limit p ≡ ends over → TurnExceeds (decode_at read p.address p.double) limit p
  unfolding turn_at
  turn-exceeds e = exceeds-by limit p (decode_at read p.address p.double) e

  -- a turn that goes on adds 4 cycles or more
  pub turn-adds : {q : Place} → turn_at read limit p ≡ goes_on q → p.sum + 4 ≤ q.sum
  turn-adds e = let g = turn-goes e in omega (arith, row-bounds.least g.instr p.double)

-- two ways to go on that agree where the turn goes on
pub after_same : {A : Type 0} (stop : Answer → A) (f g : Place → A) (t : Turn) → ((q : Place) → t ≡ goes_on q → f q ≡ g q) → after_turn stop f t ≡ after_turn stop g t
after_same stop f g (ends r) h = refl
after_same stop f g (goes_on q) h = h q refl

-- A recursion along the walk, counted: by n turns from each place. One turn is `turn`, of what stands for the turns that follow, and
-- sees only the place that the walk goes on from. Then every count above what is left of the limit comes to the same.
module _ {A : Type 0} (read : ℕ → ℕ) (limit : ℕ) (turn : Place → (Place → A) → A) (counted : ℕ → Place → A)
    (one : (n : ℕ) (p : Place) → counted (suc n) p ≡ turn p (counted n))
    (same : (p : Place) (f g : Place → A) → ((q : Place) → turn_at read limit p ≡ goes_on q → f q ≡ g q) → turn p f ≡ turn p g) where
  counts-agree : (n k : ℕ) (p : Place) → limit < n + p.sum → limit < k + p.sum → p.sum ≤ limit → counted n p ≡ counted k p
  counts-agree zero k p a b c = absurd (omega arith)
  counts-agree (suc n) zero p a b c = absurd (omega arith)
  counts-agree (suc n) (suc k) p a b c =
      one n p
      ∙ same p (counted n) (counted k) (λ q e. let g = turn-goes read limit p e in let w = turn-adds read limit p e in counts-agree n k q (omega arith) (omega arith) (omega arith))
      ∙ sym (one k p)

  -- so its equation has no count
  pub uncounted : (p : Place) → counted (suc limit) p ≡ turn p (counted (suc limit))
  uncounted p =
      one limit p
      ∙ same p (counted limit) (counted (suc limit)) (λ q e. let g = turn-goes read limit p e in let w = turn-adds read limit p e in counts-agree limit (suc limit) q (omega arith) (omega arith) (omega arith))

-- the walk's equation
pub walk-equation : WalkEquation
unfolding walk_on walk_by
walk-equation read limit p =
    uncounted read limit (λ q rest. after_turn (λ a. a) rest (turn_at read limit q)) (λ n. walk_by n read limit) (λ n q. refl)
    (λ q f g h. after_same (λ a. a) f g (turn_at read limit q) h)
    p

-- a wait is above the sum so far
above-turn : (t : Turn) (rest : Place → Answer) (read : ℕ → ℕ) (limit : ℕ) (p : Place) (w : ℕ) → turn_at read limit p ≡ t → after_turn (λ a. a) rest t ≡ wait w →
    ((q : Place) → rest q ≡ wait w → q.sum < w) → p.sum < w
above-turn (ends r) rest read limit p w e f ih =
    let k = turn-waits read limit p (e ∙ ap ends f) in omega (arith, row-bounds.least k.instr p.double)
above-turn (goes_on q) rest read limit p w e f ih = omega (arith, ih q f, turn-adds read limit p e)

counted-above : (n : ℕ) (read : ℕ → ℕ) (limit : ℕ) (p : Place) (w : ℕ) → walk_by n read limit p ≡ wait w → p.sum < w
unfolding walk_by
counted-above zero read limit p w e = cc
counted-above (suc n) read limit p w e = above-turn (turn_at read limit p) (walk_by n read limit) read limit p w refl e (λ q f. counted-above n read limit q w f)

pub walk-above : (read : ℕ → ℕ) (limit : ℕ) (p : Place) (w : ℕ) → walk_on read limit p ≡ wait w → p.sum < w
unfolding walk_on
walk-above read limit p w e = counted-above (suc limit) read limit p w e

-- unless it refuses, the meter answers what the walk answers
pub answers-the-walk : AnswersTheWalk
unfolding wait_of
answers-the-walk b a limit =
    let P : Report Answer → Type 0 = UnlessRefused (λ x. x ≡ walk_from (read_of b) (limit_of limit) a) in
    unless-both P (admission_of b) (λ r. tt) (cond_both P (ltb 4096 limit) tt refl)

-- .. and where it is let in and the limit is in range it answers
pub wait-answers : (b : Bus) (a limit : ℕ) → admission_of b ≡ Ok (tt {0}) → limit ≤ 4096 → wait_of b a limit ≡ answered (answer_from b limit a)
unfolding wait_of
wait-answers b a limit p q = unless-in _ _ p ∙ cond-false _ _ (le-ltb _ _ q)

-- .. and where it answers it was let in
let-in : (a : Result (Unit {0}) Refusal) (y : Report Answer) {x : Answer} → unless_barred a (λ r. refused (refusal_number r)) y ≡ answered x → a ≡ Ok (tt {0})
let-in (Ok u) y e = refl
let-in (Err r) y e = no_answer e

pub wait-admitted : (b : Bus) (a limit : ℕ) {x : Answer} → wait_of b a limit ≡ answered x → admission_of b ≡ Ok (tt {0})
unfolding wait_of
wait-admitted b a limit e = let-in (admission_of b) _ e

pub limit-low : (limit : ℕ) → limit ≤ 4096 → limit_of limit ≤ 4096
unfolding limit_of
limit-low limit h = cond_both (λ n. n ≤ 4096) (eqb limit 0) (lit≤ tt) h
