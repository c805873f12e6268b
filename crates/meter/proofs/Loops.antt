-- The invariants of the meter's loops, and what a turn of each keeps. Each is a record, so that a proof names none of its arguments.
use Rattle.std.specs.Prelude.{Option, Ok}
use Rattle.decode.specs.declared.Instr.{Instr}
use Prim.Native.Nat.{ℕ, suc, ◌+◌, ◌-◌, ◌*◌, ◌/◌, ◌<◌, ◌≤◌, max, min}
use mathlib.Core.Path.{◌≡◌, refl, ap, sym, ◌∙◌}
use mathlib.Core.Bool.{Bool, true, false}
use mathlib.Core.List.{List}
use native.Mathlib.Numerals.{add-one}
use native.Mathlib.Omega.{arith}
use lib.ListN.{get_or}
use Rattle.refusal.specs.Report.{answered}
use Rattle.memory.specs.Bus.{Bus, read_of, admission_of}
use Rattle.bitset.specs.Bits.{contains}
use Rattle.decode.specs.Fields.{opcode_of}
use Rattle.decode.specs.Decode.{instruction_of, specified}
use Rattle.decode.proofs.DecodeLaws.{decodes-in-steps}
use Rattle.meter.specs.declared.Walked.{Walked}
use Rattle.meter.specs.declared.walk.Place.{Place}
use Rattle.std.specs.declared.ops.ControlFlow.{ControlFlow}
use Rattle.std.specs.declared.ops.ControlFlow.TheVariants.{Continue, Break}
use Rattle.meter.specs.Answer.{Answer, Named, answer_of}
use Rattle.meter.specs.Walk.{limit_of, start_at, Turn, ends, goes_on, turned, decoded_turn, turn_at, after_turn, walk_on, walk_from}
use Rattle.meter.specs.Meter.{wait_of, named_before, named_of}
use Rattle.meter.specs.Inner.Stretch.{nothing_named, named_with, starts_in, StretchAdds}
use Rattle.meter.proofs.WalkLaws.{turn-goes, turn-adds, walk-equation, wait-answers}
use Rattle.meter.proofs.StretchLaws.{named_none, named_start, named-pass, word-tells, adds-nothing}

-- the walk from a start, at a place of it
pub record Walking (read : ℕ → ℕ) (limit start : ℕ) (p : Place) : Type 0 where
  pub same : walk_on read limit p ≡ walk_from read limit start
  pub low : p.sum ≤ limit

pub walking : {read : ℕ → ℕ} {limit start : ℕ} {p : Place} → p ≡ start_at start → Walking read limit start p
unfolding walk_from start_at
walking e = rw e (record { same = refl; low = omega arith })

-- a turn decodes in steps, the opcode's instruction and then its form: what is decoded so is the walk's
pub decoded-turn : (read : ℕ → ℕ) (limit : ℕ) (p : Place) {v : ℕ} {i : Instr} {x : Option Instr} {t : Turn} → t ≡ decoded_turn limit p x → v ≡ read p.address → i ≡ instruction_of (opcode_of v) → x ≡ specified read p.address i p.double → t ≡ turn_at read limit p
unfolding turn_at
decoded-turn read limit p h e f g = h ∙ rw (g, f, e) (ap (decoded_turn limit p) (decodes-in-steps.steps read p.address p.double))

-- the code's turn at a place of the walk
abbrev pub Turns : {read : ℕ → ℕ} {limit start : ℕ} {p : Place} → Walking read limit start p → ControlFlow Walked Place → Type 0
Turns {read} {limit} {start} {p} k t = turned t ≡ turn_at read limit p

module _ {read : ℕ → ℕ} {limit start : ℕ} {p : Place} {t : ControlFlow Walked Place} (k : Walking read limit start p) (e : Turns k t) where
  pub walking_on : {q : Place} → t ≡ Continue q → Walking read limit start q
  walking_on {q} g =
      let h : turn_at read limit p ≡ goes_on q = sym e ∙ ap turned g in
      record {
        same = sym (walk-equation read limit p ∙ ap (after_turn (λ a. a) (walk_on read limit)) h) ∙ k.same;
        low = (turn-goes read limit p h).room;
      }

  pub walking-less : {q : Place} → t ≡ Continue q → limit - q.sum < limit - p.sum
  walking-less g =
      let h = sym e ∙ ap turned g in
      let r = turn-goes read limit p h in
      let a = turn-adds read limit p h in
      omega arith

  pub walking-ends : {w : Walked} → t ≡ Break w → answer_of w ≡ walk_from read limit start
  walking-ends {w} g =
      let h : turn_at read limit p ≡ ends (answer_of w) = sym e ∙ ap turned g in
      sym (walk-equation read limit p ∙ ap (after_turn (λ a. a) (walk_on read limit)) h) ∙ k.same

-- the end of the walk of the meter for an address
pub wait-end : {x : Answer} {l : ℕ} (b : Bus) (a limit : ℕ) → x ≡ walk_from (read_of b) l a → l ≡ limit_of limit → admission_of b ≡ Ok (tt {0}) → limit ≤ 4096 → answered x ≡ wait_of b a limit
wait-end b a limit e r p q = ap answered (e ∙ ap (λ (n : ℕ). walk_from (read_of b) n a) r) ∙ sym (wait-answers b a limit p q)

-- the scan of a stretch, at an address of it: what its starts before that add
pub record Scanning (is_start : ℕ → Bool) (answers : ℕ → Answer) (first last : ℕ) (before : Named) (at : ℕ) (now : Named) : Type 0 where
  pub adds : StretchAdds is_start answers first at before now
  pub from : first ≤ at
  pub to : at ≤ last

pub scanning : {is_start : ℕ → Bool} {answers : ℕ → Answer} {first last : ℕ} {before : Named} → first ≤ last → Scanning is_start answers first last before first before
scanning h = record { adds = λ f a p q e. e; from = omega arith; to = h }

-- what is named after the address that it stands at
abbrev pub Scanned : {is_start : ℕ → Bool} {answers : ℕ → Answer} {first last at : ℕ} {before now : Named} → Scanning is_start answers first last before at now → Named → Type 0
Scanned {is_start} {answers} {first} {at = at} {before = before} k now' = StretchAdds is_start answers first (suc at) before now'

module _ {is_start : ℕ → Bool} {answers : ℕ → Answer} {first last at : ℕ} {before now now' : Named} (k : Scanning is_start answers first last before at now) where
  pub scanned-start : {x : Answer} → is_start at ≡ true → x ≡ answers at → now' ≡ named_with now x at → Scanned k now'
  scanned-start m e q f a p same r =
      let t = k.adds f a p (λ s i j. same s i (omega arith)) r in
      q ∙ rw (t, e) (sym (named_start f answers a at (omega (arith, k.from)) (same at k.from (omega arith) ∙ m)))

  pub scanned-pass : is_start at ≡ false → now' ≡ now → Scanned k now'
  scanned-pass m e f a p same r =
      e ∙ k.adds f a p (λ s i j. same s i (omega arith)) r ∙ sym (named-pass f answers a at (omega (arith, k.from)) (same at k.from (omega arith) ∙ m))

  pub scanning-on : Scanned k now' → at < last → Scanning is_start answers first last before (at + 1) now'
  scanning-on h l = rw (add-one at) (record { adds = h; from = omega (arith, k.from); to = omega arith })

  pub scanning-end : Scanned k now' → last ≤ at → StretchAdds is_start answers first (suc last) before now'
  scanning-end h l = let e : last ≡ at = omega (arith, k.to) in rw e h

-- the scan of a set's members, at a word of the set: what the members before the word's addresses name
pub record Collecting (clear : List ℕ) (answers : ℕ → Answer) (first last i : ℕ) (now : Named) : Type 0 where
  pub named : now ≡ named_before (contains clear) answers first (max first (64 * i))
  pub from : first / 64 ≤ i
  pub to : i ≤ last / 64

pub collecting : {clear : List ℕ} {answers : ℕ → Answer} {first last : ℕ} {now : Named} → first ≤ last → now ≡ nothing_named → Collecting clear answers first last (first / 64) now
collecting {clear} {answers} {first} h e =
    let m : max first (64 * (first / 64)) ≡ first = omega arith in
    record { named = e ∙ rw m (named_none (contains clear) answers first); from = omega arith; to = omega arith }

-- what is named after the word's addresses
abbrev pub Collected : {clear : List ℕ} {answers : ℕ → Answer} {first last i : ℕ} {now : Named} → Collecting clear answers first last i now → Named → Type 0
Collected {clear} {answers} {first} {last} {i} k now' = now' ≡ named_before (contains clear) answers first (suc (min last (64 * i + 63)))

module _ {clear : List ℕ} {answers : ℕ → Answer} {first last i : ℕ} {now now' : Named} (k : Collecting clear answers first last i now) where
  pub collected : StretchAdds (starts_in (get_or clear i 0)) answers (max first (64 * i)) (suc (min last (64 * i + 63))) now now' → Collected k now'
  collected h = h (contains clear) first (omega arith) (λ a p q. word-tells clear i a (omega arith)) k.named

  pub collecting-on : Collected k now' → i < last / 64 → Collecting clear answers first last (i + 1) now'
  collecting-on h l =
      let m : max first (64 * (i + 1)) ≡ suc (min last (64 * i + 63)) = omega (arith, k.from) in
      record { named = rw m h; from = omega (arith, k.from); to = omega arith }

  pub collecting-end : Collected k now' → last / 64 ≤ i → now' ≡ named_of (contains clear) answers first last
  unfolding named_of
  collecting-end h l = let m : min last (64 * i + 63) ≡ last = omega (arith, k.to) in rw m at h

pub vacant : {clear : List ℕ} {answers : ℕ → Answer} {first last i : ℕ} {now : Named} (k : Collecting clear answers first last i now) → get_or clear i 0 ≡ 0 → first ≤ last → Collected k now
vacant {answers = answers} {first} {last} {i} {now} k e l =
    let n : max first (64 * i) + (suc (min last (64 * i + 63)) - max first (64 * i)) ≡ suc (min last (64 * i + 63)) = omega (arith, k.from, k.to) in
    collected k (rw e (rw n at (adds-nothing answers (max first (64 * i)) (suc (min last (64 * i + 63)) - max first (64 * i)) now)))
