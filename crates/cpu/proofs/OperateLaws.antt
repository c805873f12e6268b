-- What an operate's change leaves of the registers and the status is what its row leaves of the machine begun: the pointer moves, and the
-- result is written after it.
use Prim.Native.Nat.{ℕ, ◌+◌, ◌-◌, ◌<◌, ◌≤◌}
use mathlib.Core.Path.{◌≡◌, refl, ap, ap₂, sym, subst, ◌∙◌}
use mathlib.Core.Bool.{Bool, true, false}
use mathlib.Core.List.{List, map}
use native.Mathlib.Omega.{arith}
use lib.Dec.{eqb, lit≤, lit<}
use lib.ListN.{get_or}
use Rattle.word.proofs.Choice.{cond-false}
use Rattle.word.specs.declared.Flagged.{Flagged}
use Rattle.word.specs.Word.{wrap_add}
use Rattle.word.specs.Flags.{set_sz, compare_of}
use Rattle.decode.specs.declared.Instr.TheVariants.{Register, Read}
use Rattle.decode.specs.declared.rows.Row.{Row}
use Rattle.decode.specs.Fields.{mode_of}
use Rattle.decode.specs.Rows.{interruptible_entry, operate_entry, memory_words, read_words, read_cycles, read_entry}
use Rattle.decode.proofs.OpcodeLaws.{by-eight}
use Rattle.cpu.specs.declared.Status.{Status}
use Rattle.cpu.specs.declared.change.Change.{Change}
use Rattle.cpu.specs.declared.operate.Fetched.{Fetched}
use Rattle.cpu.specs.Machine.{Machine, register, with_register, set_registers, beside, result}
use Rattle.cpu.specs.Operate.{movr, mvi, add, sub, cmp, and, xor, register_row, read_row}
use Rattle.cpu.specs.Modes.{Fetch, fetch_of}
use Rattle.cpu.specs.Inner.Parts.{flags_in}
use Rattle.cpu.specs.Inner.Change.{no_register, with_pointer, changed, status_after, writes_to, begun_at, effect_at, cycles_at, Leaves}
use Rattle.cpu.specs.Inner.Operate.{pair_at, rising_fetched, through_fetched, fetched_of, destination_of, operated, register_result, fetched_result}
use Rattle.cpu.proofs.RowAnswers.{own_is, result_own, on-is, writes-leave}

-- the next word but one
wrap-twice : (a : ℕ) → wrap_add (wrap_add a 1) 1 ≡ wrap_add a 2
unfolding wrap_add
wrap-twice a = omega arith

-- what holds of six numbers in a row holds of each of them
by-six : (c : ℕ) (P : ℕ → Type 0) → P (c + 0) → P (c + 1) → P (c + 2) → P (c + 3) → P (c + 4) → P (c + 5) → (n : ℕ) → c ≤ n → n < c + 6 → P n
by-six c P p0 p1 p2 p3 p4 p5 n l h =
    let back : c + (n - c) ≡ n = omega arith in
    subst P back
    (by-eight (λ j. j < 6 → P (c + j)) (λ i. p0) (λ i. p1) (λ i. p2) (λ i. p3) (λ i. p4) (λ i. p5) (λ i. absurd (omega arith)) (λ i. absurd (omega arith))
    (n - c) (omega arith) (omega arith))

-- a row is its result written; CMPR and CMP write the register's own word, which is nothing
module _ (d y : ℕ) (m : Machine) (own : with_register d (register d m) m.registers ≡ m.registers) where
  abbrev taken : Flagged
  taken = beside (register d m) m.flags

  compare-is : cmp d y m ≡ result d (compare_of (register d m) y) m
  unfolding cmp compare_of
  compare-is = sym (result_own d (compare_of (register d m) y) m own refl)

  register-row-is : (row : ℕ) → 2 ≤ row → row < 8 → register_row (row - 2) y d m ≡ result d (register_result row taken y) m
  unfolding register_result operated movr add sub and xor set_sz
  register-row-is = by-six 2 (λ row. register_row (row - 2) y d m ≡ result d (register_result row taken y) m) refl refl refl compare-is refl refl

  read-row-is : (row : ℕ) → 10 ≤ row → row < 16 → read_row (row - 10) y d m ≡ result d (fetched_result row taken y) m
  unfolding fetched_result operated mvi add sub and xor set_sz result
  read-row-is = by-six 10 (λ row. read_row (row - 10) y d m ≡ result d (fetched_result row taken y) m) refl refl refl compare-is refl refl

-- which of the fetches it is
module _ (r : List ℕ) (read : ℕ → ℕ) (pc : ℕ) (double : Bool) where
  pub fetched-rising : (s : ℕ) → s < 8 → 4 ≤ s → s < 6 → fetched_of r read pc double s ≡ rising_fetched read s (get_or r s 0) double
  unfolding fetched_of
  fetched-rising =
      by-eight (λ s. 4 ≤ s → s < 6 → fetched_of r read pc double s ≡ rising_fetched read s (get_or r s 0) double)
      (λ l h. absurd (omega arith)) (λ l h. absurd (omega arith)) (λ l h. absurd (omega arith)) (λ l h. absurd (omega arith))
      (λ l h. refl) (λ l h. refl) (λ l h. absurd (omega arith)) (λ l h. absurd (omega arith))

  pub fetched-through : (s : ℕ) → s < 8 → (s ≡ 0 → ⊥) → s < 4 → fetched_of r read pc double s ≡ through_fetched read s (get_or r s 0) double
  unfolding fetched_of
  fetched-through =
      by-eight (λ s. (s ≡ 0 → ⊥) → s < 4 → fetched_of r read pc double s ≡ through_fetched read s (get_or r s 0) double)
      (λ z h. absurd (z refl)) (λ z h. refl) (λ z h. refl) (λ z h. refl)
      (λ z h. absurd (omega arith)) (λ z h. absurd (omega arith)) (λ z h. absurd (omega arith)) (λ z h. absurd (omega arith))

-- the pointers that a fetch moves: 8 is no register
data Pointer : ℕ → Type 0 where
  four : Pointer 4
  five : Pointer 5
  six : Pointer 6
  none : Pointer no_register

-- "A read moves the pointer first and takes the destination operand after."
module _ (r : List ℕ) (next v w : ℕ) (row : Row) where
  abbrev TakenAfter : ℕ → ℕ → Type 0
  TakenAfter p d = destination_of r next (record { value = v; pointer = p; moved = w; row = row }) d ≡ get_or (with_pointer p w (with_register 7 next r)) d 0

  destination-is : (p : ℕ) → Pointer p → (d : ℕ) → d < 8 → TakenAfter p d
  unfolding destination_of
  destination-is p four = by-eight (TakenAfter 4) refl refl refl refl refl refl refl refl
  destination-is p five = by-eight (TakenAfter 5) refl refl refl refl refl refl refl refl
  destination-is p six = by-eight (TakenAfter 6) refl refl refl refl refl refl refl refl
  destination-is p none = by-eight (TakenAfter no_register) refl refl refl refl refl refl refl refl

module _ (pc : ℕ) (r : List ℕ) (k : Status) where
  -- a change that leaves what a register operate leaves
  abbrev Operates : ℕ → ℕ → ℕ → Change → Type 0
  Operates row s d x =
      (read : ℕ → ℕ) (external : ℕ) →
      Leaves x r (effect_at (Register row s d) pc r k read external).machine (cycles_at (Register row s d) pc r k external)

  -- the register operates: R7 is on already
  pub register-leaves : get_or r 7 0 ≡ wrap_add pc 1 → (row s d : ℕ) → 2 ≤ row → row < 8 → s < 8 → d < 8 →
      Operates row s d (writes_to k (operate_entry row d) pc d (register_result row (beside (get_or r d 0) (flags_in k)) (get_or r s 0)))
  unfolding interruptible_entry
  register-leaves on row s d l h hs hd read external =
      let m : Machine = begun_at (operate_entry row d) pc r k in
      record {
        machine =
            writes-leave k (operate_entry row d) refl refl pc d (register_result row (beside (get_or r d 0) (flags_in k)) (get_or r s 0)) r
            ∙ ap₂ (λ (x y : ℕ). result d (register_result row (beside x (flags_in k)) y) m) (sym (on-is (wrap_add pc 1) r on d hd)) (sym (on-is (wrap_add pc 1) r on s hs))
            ∙ sym (register-row-is d (register s m) m (own_is 7 (wrap_add pc 1) r d hd) row l h);
        costs = refl;
      }

  -- .. of which MOVR is 2
  pub movr-leaves : get_or r 7 0 ≡ wrap_add pc 1 → (row s d : ℕ) → row ≡ 2 → s < 8 → d < 8 →
      Operates row s d (writes_to k (operate_entry 2 d) pc d (set_sz (get_or r s 0) (beside (get_or r d 0) (flags_in k))))
  unfolding register_result
  movr-leaves on row s d e hs hd =
      subst (λ n. Operates n s d (writes_to k (operate_entry 2 d) pc d (set_sz (get_or r s 0) (beside (get_or r d 0) (flags_in k))))) (sym e)
      (register-leaves on 2 s d (lit≤ tt) (lit< tt) hs hd)

  -- .. and the others what is operated
  pub others-leave : get_or r 7 0 ≡ wrap_add pc 1 → (row s d : ℕ) → eqb row 2 ≡ false → 2 ≤ row → row < 8 → s < 8 → d < 8 →
      Operates row s d (writes_to k (operate_entry row d) pc d (operated row (beside (get_or r d 0) (flags_in k)) (get_or r s 0)))
  unfolding register_result
  others-leave on row s d z l h hs hd =
      subst (λ f. Operates row s d (writes_to k (operate_entry row d) pc d f)) (cond-false _ _ z) (register-leaves on row s d l h hs hd)

  -- the change that the code makes of an operand
  abbrev pub read_change : ℕ → ℕ → Fetched → Change
  read_change row d g =
      let next : ℕ = wrap_add pc g.row.words in
      let f : Flagged = fetched_result row (beside (destination_of r next g d) (flags_in k)) g.value in
      record {
        destination = d;
        value = f.value;
        pointer = g.pointer;
        moved = g.moved;
        next = next;
        cycles = g.row.cycles;
        status = status_after k g.row f k.i;
      }

  -- the machine begun with a fetch's row, its pointer moved
  abbrev moved_by : Fetched → Machine
  moved_by g =
      set_registers (with_pointer g.pointer g.moved (with_register 7 (wrap_add pc g.row.words) r)) (begun_at g.row pc r k)

  -- what the code fetched is the operand that the mode reads, and its pointer moves as the mode says
  record Fetches (read : ℕ → ℕ) (row : Row) (g : Fetched) (f : Fetch) : Type 0 where
    entry : g.row ≡ row
    points : Pointer g.pointer
    value : f.operand (map read (f.reads read)) ≡ g.value
    moves : f.after ≡ moved_by g

  abbrev FetchesAt : (ℕ → ℕ) → Bool → ℕ → Type 0
  FetchesAt read double s =
      Fetches read (read_entry s double) (fetched_of r read pc double s) (fetch_of (mode_of s) double pc (begun_at (read_entry s double) pc r k))

  fetch-is : (read : ℕ → ℕ) (double : Bool) (s : ℕ) → s < 8 → FetchesAt read double s
  unfolding fetched_of pair_at read_entry read_words read_cycles memory_words interruptible_entry
  fetch-is read true =
      by-eight (FetchesAt read true)
      (record { entry = refl; points = none; value = refl; moves = refl })
      (record { entry = refl; points = none; value = refl; moves = refl })
      (record { entry = refl; points = none; value = refl; moves = refl })
      (record { entry = refl; points = none; value = refl; moves = refl })
      (record { entry = refl; points = four; value = refl; moves = refl })
      (record { entry = refl; points = five; value = refl; moves = refl })
      (record { entry = refl; points = six; value = refl; moves = refl })
      (record { entry = refl; points = none; value = rw (wrap-twice pc); moves = refl })
  fetch-is read false =
      by-eight (FetchesAt read false)
      (record { entry = refl; points = none; value = refl; moves = refl })
      (record { entry = refl; points = none; value = refl; moves = refl })
      (record { entry = refl; points = none; value = refl; moves = refl })
      (record { entry = refl; points = none; value = refl; moves = refl })
      (record { entry = refl; points = four; value = refl; moves = refl })
      (record { entry = refl; points = five; value = refl; moves = refl })
      (record { entry = refl; points = six; value = refl; moves = refl })
      (record { entry = refl; points = none; value = refl; moves = refl })

  -- the change that is made of an operand writes the result after the pointer has moved
  read-writes : (read : ℕ → ℕ) (s : ℕ) (double : Bool) (g : Fetched) (f : Fetch) → Fetches read (read_entry s double) g f → (row d : ℕ) → 10 ≤ row → row < 16 → d < 8 →
      changed (read_change row d g) r ≡ read_row (row - 10) (f.operand (map read (f.reads read))) d f.after
  unfolding result read_entry interruptible_entry
  read-writes read s double g f is row d l h hd =
      let m : Machine = moved_by g in
      let next : ℕ = wrap_add pc g.row.words in
      let written : ℕ → Machine = λ x. result d (fetched_result row (beside x (flags_in k)) g.value) m in
      let halts : g.row.halts ≡ false = ap (λ (e : Row). e.halts) is.entry in
      let clear : g.row.double ≡ false = ap (λ (e : Row). e.double) is.entry in
      let leaves : changed (read_change row d g) r ≡ written (destination_of r next g d) = rw (halts, clear) in
      leaves
      ∙ ap written (destination-is r next g.value g.moved g.row g.pointer is.points d hd)
      ∙ sym (read-row-is d g.value m (own_is no_register 0 m.registers d hd) row l h)
      ∙ ap₂ (λ (y : ℕ) (q : Machine). read_row (row - 10) y d q) (sym is.value) (sym is.moves)

  -- the reads
  pub read-leaves : (read : ℕ → ℕ) (row s d : ℕ) → 10 ≤ row → row < 16 → s < 8 → d < 8 → (external : ℕ) →
      Leaves (read_change row d (fetched_of r read pc k.d s)) r (effect_at (Read row s d) pc r k read external).machine (cycles_at (Read row s d) pc r k external)
  read-leaves read row s d l h hs hd external =
      let g : Fetched = fetched_of r read pc k.d s in
      let f : Fetch = fetch_of (mode_of s) k.d pc (begun_at (read_entry s k.d) pc r k) in
      let is = fetch-is read k.d s hs in
      record { machine = read-writes read s k.d g f is row d l h hd; costs = ap (λ (e : Row). e.cycles) is.entry }
