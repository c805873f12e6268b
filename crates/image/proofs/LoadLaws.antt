-- What the loader does with the first pass's answer.
use Prim.Native.Nat.{ℕ, ◌+◌, ◌-◌, ◌%◌}
use mathlib.Core.Path.{◌≡◌, refl, sym, ap, ◌∙◌}
use mathlib.Core.Bool.{Bool, true, false, cond}
use mathlib.Core.List.{List}
use native.Mathlib.Omega.{arith}
use lib.Dec.{eqb}
use lib.ListN.{length, take}
use Rattle.refusal.specs.declared.Refusal.{Refusal}
use Rattle.refusal.specs.declared.Refusal.TheVariants.{MemoryTooLong, WrongBoard, SumDiffers}
use Rattle.refusal.specs.Report.{answered}
use Rattle.memory.specs.Memory.{too_long}
use Rattle.word.specs.Word.{wrap_add}
use Rattle.std.proofs.Common.{Ok, Err}
use Rattle.records.specs.Loading.{Loading, refuse_load, loaded}
use Rattle.image.specs.declared.check.Checked.{Checked}
use Rattle.image.specs.Format.{record_limit, head_bytes, body_bytes, records_sum, checksum, id_head, head_sum}
use Rattle.image.specs.Read.{Opening, opened, head_of, Body, whole, broken, body_of}
use Rattle.image.specs.Load.{is_for, sum_tested, board_tested, load_with, load_of}
use Rattle.image.specs.Inner.Pass.{summary, is_whole, placed_body}
use Rattle.image.proofs.PassLaws.{mod-right}
use Rattle.word.proofs.Choice.{cond-true, cond-false}
use Rattle.word.proofs.SetsLaws.{rest}

-- the sum test, as the code makes it and as the definition has it
tested : (m : List ℕ) (head : ℕ) (k : Checked) (b : Body) (t : Bool) → Ok k ≡ summary 0 0 b → eqb (wrap_add head k.sum) k.stated ≡ t
    → sum_tested m head b ≡ cond t (record { answer = answered k.records; memory = placed_body m b }) (refuse_load m SumDiffers)
unfolding wrap_add checksum
tested m head k (whole rs st) t e h =
    let ek : k ≡ record { records = 0 + length rs; sum = (0 + records_sum rs) % 65536; stated = st } = cc in
    let en : k.records ≡ length rs = ap (λ (x : Checked). x.records) ek ∙ omega arith in
    let es : k.sum ≡ (0 + records_sum rs) % 65536 = ap (λ (x : Checked). x.sum) ek in
    let et : k.stated ≡ st = ap (λ (x : Checked). x.stated) ek in
    let z : 0 + records_sum rs ≡ records_sum rs = omega arith in
    rw (← et, ← en, ← h, es, z, mod-right head (records_sum rs))
tested m head k (broken r) t e h = let z : ◌≡◌ {A = ℕ} 0 1 = cc in absurd (omega arith)

module _ (m : List ℕ) (head : ℕ) (b : Body) {k : Checked} (e : Ok k ≡ summary 0 0 b) where
  pub whole-accepted : {m' : List ℕ} → eqb (wrap_add head k.sum) k.stated ≡ true → m' ≡ placed_body m b → loaded (Ok k.records) m' ≡ sum_tested m head b
  whole-accepted h g = rw g (sym (tested m head k b true e h))

  pub whole-refused : eqb (wrap_add head k.sum) k.stated ≡ false → loaded (Err SumDiffers) m ≡ sum_tested m head b
  whole-refused h = sym (tested m head k b false e h)

pub whole-known : (b : Body) {k : Checked} → Ok k ≡ summary 0 0 b → is_whole b ≡ true
whole-known (whole rs st) e = refl
whole-known (broken r) e = let z : ◌≡◌ {A = ℕ} 0 1 = cc in absurd (omega arith)

pub broken-refused : (m : List ℕ) (head : ℕ) (r : Refusal) (b : Body) → Err r ≡ summary 0 0 b → loaded (Err r) m ≡ sum_tested m head b
broken-refused m head r (whole rs st) e = let z : ◌≡◌ {A = ℕ} 0 1 = cc in absurd (omega arith)
broken-refused m head r (broken q) e = let f : r ≡ q = cc in rw f

-- the code's test of the one board is the test of a list of one
pub one-board : (named board : ℕ) → eqb named board ≡ is_for (id_head named) board
one-board named board = go (eqb named board)
  where
    go : (t : Bool) → t ≡ cond t true false
    go true = refl
    go false = refl

pub one_number : (board : ℕ) → head_sum (id_head board) ≡ board
one_number board = omega arith

-- The loader's ways, in document 01's order.
module _ (opening : List ℕ → Opening) (limit board : ℕ) (m file : List ℕ) where
  pub load-long : too_long m ≡ true → load_with opening limit board m file ≡ refuse_load m MemoryTooLong
  unfolding load_with
  load-long h = cond-true _ _ h

  pub load-head : too_long m ≡ false → {o : Opening} → opening file ≡ o → load_with opening limit board m file ≡ board_tested limit board m file o
  unfolding load_with
  load-head t e = cond-false _ _ t ∙ ap (board_tested limit board m file) e

-- .. with an `ID` head: the code reads it from the file, and the rest from a slice of it
module _ (board : ℕ) (m file : List ℕ) {named : ℕ} (t : too_long m ≡ false) (e : head_of file ≡ opened (id_head named)) where
  pub load-other : is_for (id_head named) board ≡ false → loaded (Err WrongBoard) m ≡ load_of board m file
  load-other h = sym (load-head head_of record_limit board m file t e ∙ cond-false _ _ h)

  pub load_here : {l : Loading} → is_for (id_head named) board ≡ true
      → l ≡ sum_tested m named (body_of record_limit (length m) (take (length file - head_bytes) (body_bytes file))) → l ≡ load_of board m file
  load_here h g =
      rw (rest file head_bytes) at g
      ∙ ap (λ (n : ℕ). sum_tested m n (body_of record_limit (length m) (body_bytes file))) (sym (one_number named))
      ∙ sym (load-head head_of record_limit board m file t e ∙ cond-true _ _ h)
