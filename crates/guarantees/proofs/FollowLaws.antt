-- The machine follows the walk: by induction on the steps, with a turn of the walk for each.
use Rattle.std.proofs.Common.{Some}
use Prim.Native.Nat.{ℕ, suc, ◌+◌, ◌<◌, ◌≤◌}
use mathlib.Core.Path.{◌≡◌, refl, ap, sym, subst, ◌∙◌}
use mathlib.Core.Bool.{true, false, cond}
use mathlib.Core.List.{List, [], ◌∷◌}
use native.Mathlib.Omega.{arith}
use lib.Dec.{lit≤}
use lib.ListN.{length, get_or}
use Rattle.word.proofs.Choice.{cond_both}
use Rattle.memory.specs.Bus.{Bus, read_of}
use Rattle.memory.specs.Laws.{AgreeAt}
use Rattle.memory.proofs.BusLaws.{agree-through}
use Rattle.decode.specs.declared.Instr.{Instr}
use Rattle.decode.specs.Decode.{decode_at}
use Rattle.decode.specs.Rows.{row_of}
use Rattle.decode.specs.Reads.{decoding_reads}
use Rattle.decode.proofs.RowLaws.{row-bounds}
use Rattle.decode.proofs.DecodeLaws.{decoding-is-local}
use Rattle.cpu.specs.declared.Lines.{Lines}
use Rattle.cpu.specs.Machine.{Machine}
use Rattle.cpu.specs.Answer.{done}
use Rattle.cpu.specs.Step.{step_of}
use Rattle.cpu.specs.Steps.{StepMade, steps_from, cycles_of_all, Unrefused}
use Rattle.cpu.proofs.ActionLaws.{keeps_admission}
use Rattle.meter.specs.declared.walk.Place.{Place}
use Rattle.meter.specs.Answer.{wait, over}
use Rattle.meter.specs.Walk.{Turn, ends, goes_on, turn_at, after_turn, walk_on}
use Rattle.meter.specs.Reads.{reads_on}
use Rattle.meter.proofs.WalkLaws.{turn-goes, turn-waits, turn-exceeds, walk-equation, walk-above}
use Rattle.meter.proofs.ReadLaws.{reads-equation}
use Rattle.guarantees.specs.Grants.{is_grant, grants, before_grant, step_untaken}
use Rattle.guarantees.specs.Unstored.{Unstored}
use Rattle.guarantees.specs.Demand.{RequestsLow}
use Rattle.guarantees.proofs.GrantLaws.{grants-now, before-now, grants-later, before-later, no-grant, executed-later, cycles-more, unrefused-more, less, less-last, less-more}
use Rattle.guarantees.proofs.StepLaws.{Here, step-granted, step_made, step-answer, step-charged, step-by-row, step-here, step-whole, whole-answer}

-- What the walk has ahead of it, at instructions whose words are `reads` of the bus that the meter was given, and a machine that has come as
-- far: its own bus reads the same at all of them. So the walk is never moved to a changed bus.
pub record Follows (reads : List (List ℕ)) (given : Bus) (m : Machine) (b : Bus) (ls : List Lines) (p : Place) : Type 0 where
  pub here : Here m b p
  pub low : RequestsLow ls
  pub same : (i : ℕ) → AgreeAt (get_or reads i []) given b
  pub quiet : Unstored reads (steps_from m b ls)

-- the machine meets the instruction that the walk meets
follows-known : {r : List (List ℕ)} {given : Bus} {m : Machine} {b : Bus} {ls : List Lines} {p : Place} {i : Instr} →
    Follows (decoding_reads (read_of given) p.address ∷ r) given m b ls p →
    decode_at (read_of given) p.address p.double ≡ Some i →
    decode_at (read_of b) p.address p.double ≡ Some i
follows-known {given = given} {b = b} {p = p} f e = sym (decoding-is-local given b p.address p.double (f.same 0)) ∙ e

-- one instruction further
follows_on : {words : List ℕ} {r : List (List ℕ)} {given : Bus} {m : Machine} {b : Bus} {l : Lines} {ls : List Lines} {p q : Place} →
    Follows (words ∷ r) given m b (l ∷ ls) p →
    Here (step_of m b l).machine (step_of m b l).bus q →
    Follows r given (step_of m b l).machine (step_of m b l).bus ls q
unfolding steps_from Unstored
follows_on {words} {r} {given} {m} {b} {l} {ls} f h =
    let x : StepMade = step_made m b l in
    record {
      here = h;
      low = f.low.1;
      same = λ i. agree-through (get_or r i []) given b (step_of m b l).bus (f.same (suc i)) (f.quiet [] x (steps_from (step_of m b l).machine (step_of m b l).bus ls) (suc i) refl (omega arith));
      quiet = λ earlier y later i e k. f.quiet (x ∷ earlier) y later (suc i) (ap (λ (t : List StepMade). x ∷ t) e) (omega arith);
    }

-- what a turn that goes on and the step for it come to
record Went (reads : List (List ℕ)) (given : Bus) (m : Machine) (b : Bus) (l : Lines) (ls : List Lines) (p q : Place) : Type 0 where
  cycles : ℕ
  low : 4 ≤ cycles
  sum : q.sum ≡ p.sum + cycles
  answer : (step_of m b l).answer ≡ done 5 cycles
  whole : step_untaken (step_made m b l) ≡ false
  follows : Follows reads given (step_of m b l).machine (step_of m b l).bus ls q

went : {r : List (List ℕ)} {given : Bus} {m : Machine} {b : Bus} {l : Lines} {ls : List Lines} {p q : Place} (limit : ℕ) →
    Follows (decoding_reads (read_of given) p.address ∷ r) given m b (l ∷ ls) p →
    turn_at (read_of given) limit p ≡ goes_on q →
    Went r given m b l ls p q
went {given = given} {m} {b} {l} {ls} {p} {q} limit f e =
    let k = turn-goes (read_of given) limit p e in
    let d = follows-known f k.known in
    record {
      cycles = (row_of k.instr p.double).cycles;
      low = row-bounds.least k.instr p.double;
      sum = k.sum;
      answer = whole-answer m b l f.here d k.uninterruptible k.running;
      whole = step-whole m b l f.here d k.uninterruptible k.running;
      follows = follows_on f (step-here m b l f.here d k.uninterruptible k.running k.address k.double);
    }

-- the claim of a wait from a place on: n is the number of steps, of which each but the last adds to the sum
pub record Waited (t : List StepMade) (n sum w : ℕ) : Type 0 where
  pub exact : grants t ≡ true → sum + cycles_of_all (before_grant t) + less (before_grant t) ≡ w
  pub unrefused : Unrefused (before_grant t)
  pub reached : w ≤ sum + n → grants t ≡ true

-- no step is made yet
waited-none : (sum w : ℕ) → sum < w → Waited [] 0 sum w
unfolding before_grant Unrefused
waited-none sum w h = record { exact = λ k. no-grant k; unrefused = tt; reached = λ k. absurd (omega arith) }

-- a step of the walk in front of a wait
waited-more : (x : StepMade) (t : List StepMade) (n sum w c : ℕ) → 4 ≤ c → x.left.answer ≡ done 5 c → step_untaken x ≡ false → Waited t n (sum + c) w → Waited (x ∷ t) (suc n) sum w
waited-more x t n sum w c h e z k =
    let g = executed-later x t e in
    let b = before-later x t g in
    record {
      exact = λ j. rw b (omega (arith, k.exact (sym (grants-later x t g) ∙ j), cycles-more x (before_grant t) e, less-more x (before_grant t) z));
      unrefused = subst Unrefused (sym b) (unrefused-more x (before_grant t) e k.unrefused);
      reached = λ j. grants-later x t g ∙ k.reached (omega arith);
    }

-- a step that makes the last instruction, of n cycles: its row has c
module _ (x : StepMade) (n c sum : ℕ) (low : 4 ≤ c) (e : x.left.answer ≡ done 5 n) (u : n + cond (step_untaken x) 2 0 ≡ c) where
  -- it ends the list
  last-alone : Waited (x ∷ []) 1 sum (sum + c)
  unfolding before_grant Unrefused
  last-alone =
      let g = executed-later x [] e in
      record {
        exact = λ k. no-grant (sym (grants-later x [] g) ∙ k);
        unrefused = subst Unrefused (sym (before-later x [] g)) (unrefused-more x [] e tt);
        reached = λ k. absurd (omega arith);
      }

  -- or the grant comes next
  last-granted : (y : StepMade) (t : List StepMade) (k : ℕ) → is_grant y.left.answer ≡ true → Waited (x ∷ y ∷ t) k sum (sum + c)
  unfolding Unrefused cycles_of_all
  last-granted y t k p =
      let g = executed-later x (y ∷ t) e in
      let b : before_grant (x ∷ y ∷ t) ≡ x ∷ [] = before-later x (y ∷ t) g ∙ ap (λ (u : List StepMade). x ∷ u) (before-now y t p) in
      record {
        exact = λ j. rw b (omega (arith, cycles-more x [] e, less-last x));
        unrefused = subst Unrefused (sym b) (unrefused-more x [] e tt);
        reached = λ j. grants-later x (y ∷ t) g ∙ grants-now y t p;
      }

-- a machine that stands at the interruptible instruction
waited-last : (m : Machine) (b : Bus) (l : Lines) (ls : List Lines) {p : Place} {i : Instr} → Here m b p →
    decode_at (read_of b) p.address p.double ≡ Some i →
    (row_of i p.double).halts ≡ false →
    (row_of i p.double).interruptible ≡ true →
    RequestsLow (l ∷ ls) →
    Waited (steps_from m b (l ∷ ls)) (suc (length ls)) p.sum (p.sum + (row_of i p.double).cycles)
unfolding steps_from
waited-last m b l [] {p} {i} h e run hear low =
    last-alone _ _ _ p.sum (row-bounds.least i p.double) (step-answer m b l h e) (step-charged m b l h e)
waited-last m b l (next ∷ ls) {p} {i} h e run hear low =
    let k = step-by-row m b l h e in
    last-granted _ _ _ p.sum (row-bounds.least i p.double) (step-answer m b l h e) (step-charged m b l h e) _ _ _
    (step-granted (step_of m b l).machine (step_of m b l).bus next (keeps_admission m b l ∙ h.admitted) (k.halted h.running ∙ run) (k.ready ∙ hear) low.1.0)

-- the machine follows a walk that answers a wait: by one turn, and by the walk
wait-turn : (t : Turn) (l : Lines) (ls : List Lines) (m : Machine) (b given : Bus) (limit : ℕ) (p : Place) (w : ℕ) →
    turn_at (read_of given) limit p ≡ t →
    after_turn (λ a. a) (walk_on (read_of given) limit) t ≡ wait w →
    Follows (decoding_reads (read_of given) p.address ∷ after_turn (λ a. []) (reads_on (read_of given) limit) t) given m b (l ∷ ls) p →
    ((m' : Machine) (b' : Bus) (q : Place) → Follows (reads_on (read_of given) limit q) given m' b' ls q → walk_on (read_of given) limit q ≡ wait w → Waited (steps_from m' b' ls) (length ls) q.sum w) →
    Waited (steps_from m b (l ∷ ls)) (suc (length ls)) p.sum w
wait-turn (ends r) l ls m b given limit p w e f g ih =
    let k = turn-waits (read_of given) limit p (e ∙ ap ends f) in
    rw k.sum (waited-last m b l ls g.here (follows-known g k.known) k.running k.interruptible g.low)
wait-turn (goes_on q) l ls m b given limit p w e f g ih =
    unfold steps_from in
    let k = went limit g e in
    waited-more _ _ (length ls) p.sum w k.cycles k.low k.answer k.whole
    (rw (← k.sum) (ih (step_of m b l).machine (step_of m b l).bus q k.follows f))

pub wait-follows : (ls : List Lines) (m : Machine) (b given : Bus) (limit : ℕ) (p : Place) (w : ℕ) →
    Follows (reads_on (read_of given) limit p) given m b ls p →
    walk_on (read_of given) limit p ≡ wait w →
    Waited (steps_from m b ls) (length ls) p.sum w
wait-follows [] m b given limit p w g e = unfold steps_from in waited-none p.sum w (walk-above (read_of given) limit p w e)
wait-follows (l ∷ ls) m b given limit p w g e =
    wait-turn (turn_at (read_of given) limit p) l ls m b given limit p w refl (sym (walk-equation (read_of given) limit p) ∙ e) (rw (reads-equation (read_of given) limit p) at g)
    (λ m' b' q f h. wait-follows ls m' b' given limit q w f h)

-- the claim of a walk over the limit, from a place on
abbrev Late : List StepMade → ℕ → ℕ → Type 0
Late t limit sum = grants t ≡ true → limit ≤ sum + cycles_of_all (before_grant t) + 1

-- the instruction that passes the limit
late-now : (x : StepMade) (t : List StepMade) (limit sum n c : ℕ) → limit < sum + c → x.left.answer ≡ done 5 n → n + cond (step_untaken x) 2 0 ≡ c → Late (x ∷ t) limit sum
late-now x t limit sum n c a e u g =
    let b = before-later x t (executed-later x t e) in
    let few : cond (step_untaken x) 2 0 ≤ 2 = cond_both (λ (k : ℕ). k ≤ 2) (step_untaken x) (lit≤ tt) (lit≤ tt) in
    rw b (omega (arith, cycles-more x (before_grant t) e))

-- a step of the walk in front of it
late-more : (x : StepMade) (t : List StepMade) (limit sum c : ℕ) → x.left.answer ≡ done 5 c → Late t limit (sum + c) → Late (x ∷ t) limit sum
late-more x t limit sum c e k g =
    let v = executed-later x t e in
    let b = before-later x t v in
    rw b (omega (arith, cycles-more x (before_grant t) e, k (sym (grants-later x t v) ∙ g)))

over-turn : (t : Turn) (l : Lines) (ls : List Lines) (m : Machine) (b given : Bus) (limit : ℕ) (p : Place) →
    turn_at (read_of given) limit p ≡ t →
    after_turn (λ a. a) (walk_on (read_of given) limit) t ≡ over →
    Follows (decoding_reads (read_of given) p.address ∷ after_turn (λ a. []) (reads_on (read_of given) limit) t) given m b (l ∷ ls) p →
    ((m' : Machine) (b' : Bus) (q : Place) → Follows (reads_on (read_of given) limit q) given m' b' ls q → walk_on (read_of given) limit q ≡ over → Late (steps_from m' b' ls) limit q.sum) →
    Late (steps_from m b (l ∷ ls)) limit p.sum
unfolding steps_from
over-turn (ends r) l ls m b given limit p e f g ih =
    let k = turn-exceeds (read_of given) limit p (e ∙ ap ends f) in
    let d = follows-known g k.known in
    late-now _ _ limit p.sum _ _ k.above (step-answer m b l g.here d) (step-charged m b l g.here d)
over-turn (goes_on q) l ls m b given limit p e f g ih =
    let k = went limit g e in
    late-more _ _ limit p.sum k.cycles k.answer
    (rw (← k.sum) (ih (step_of m b l).machine (step_of m b l).bus q k.follows f))

pub over-follows : (ls : List Lines) (m : Machine) (b given : Bus) (limit : ℕ) (p : Place) →
    Follows (reads_on (read_of given) limit p) given m b ls p →
    walk_on (read_of given) limit p ≡ over →
    Late (steps_from m b ls) limit p.sum
over-follows [] m b given limit p g e = unfold steps_from in λ k. no-grant k
over-follows (l ∷ ls) m b given limit p g e =
    over-turn (turn_at (read_of given) limit p) l ls m b given limit p refl (sym (walk-equation (read_of given) limit p) ∙ e) (rw (reads-equation (read_of given) limit p) at g)
    (λ m' b' q f h. over-follows ls m' b' given limit q f h)
