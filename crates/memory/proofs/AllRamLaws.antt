-- An all-RAM map reads and stores as the lent memory does.
use Prim.Native.Nat.{ℕ, ◌≤◌}
use mathlib.Core.Path.{◌≡◌, refl, ap, sym}
use mathlib.Core.Bool.{Bool, true, false, cond}
use mathlib.Core.List.{List}
use native.Mathlib.Omega.{arith}
use lib.Dec.{leb}
use lib.ListN.{length, get_or-eq_default}
use lib.Seq.{set_out}
use borrow.Author.Tests.{leb-false, le-leb}
use Rattle.memory.specs.declared.map.Board.{Board}
use Rattle.std.specs.Prelude.{Ok, None, Some}
use Rattle.memory.specs.Memory.{peek_of, poke_of}
use Rattle.memory.specs.Map.{holds, cell_in, ram16, empty, cell_at, read_as, store_as, bad_map, whole_ram, all_ram}
use Rattle.memory.specs.Bus.{bus_of, on_board, bus_on, read_of, store_of, admission_of}
use Rattle.memory.specs.Laws.{AllRam, AllRamLaws}
use Rattle.memory.proofs.BusLaws.{let-in}

-- the one range of an all-RAM map decides by its last address alone
cell-by : (t : Bool) → cell_in (cond t (Some whole_ram) None) ≡ cond t ram16 empty
cell-by true = refl
cell-by false = refl

decided : (b : Board) → AllRam b → (a : ℕ) → cell_at b a ≡ cond (leb a 0xFFFF) ram16 empty
unfolding cell_at holds
decided b h a = rw (h.whole, le-leb 0 a (omega arith)) (cell-by (leb a 0xFFFF))

read_by : (m : List ℕ) (a : ℕ) (t : Bool) → leb a 0xFFFF ≡ t → length m ≤ 65536 → read_as (cond t ram16 empty) m a ≡ peek_of m a
unfolding peek_of
read_by m a true e h = refl
read_by m a false e h = sym (get_or-eq_default m 0xFFFF (omega (arith, leb-false a 0xFFFF e)))

store_by : (m : List ℕ) (a w : ℕ) (t : Bool) → leb a 0xFFFF ≡ t → length m ≤ 65536 → store_as (cond t ram16 empty) m a w ≡ poke_of m a w
unfolding poke_of
store_by m a w true e h = refl
store_by m a w false e h = sym (set_out m a w (omega (arith, leb-false a 0xFFFF e)))

good : (b : Board) → AllRam b → bad_map b ≡ false
unfolding bad_map
good b h = rw (h.whole, h.one)

admits : (b : Board) (m : List ℕ) → AllRam b → admission_of (bus_on b m) ≡ admission_of (bus_of m)
unfolding admission_of
admits b m h = rw (good b h)

read_at : (b : Board) (m : List ℕ) → AllRam b → length m ≤ 65536 → (a : ℕ) → read_of (bus_on b m) a ≡ read_of (bus_of m) a
unfolding read_of
read_at b m h n a = rw (decided b h a) (read_by m a (leb a 0xFFFF) refl n)

stores : (b : Board) (m : List ℕ) → AllRam b → admission_of (bus_of m) ≡ Ok tt → (a w : ℕ) → store_of (bus_on b m) a w ≡ on_board b (store_of (bus_of m) a w)
unfolding store_of
stores b m h e a w = ap (bus_on b) (rw (decided b h a) (store_by m a w (leb a 0xFFFF) refl (let-in m e)))

made : AllRam all_ram
unfolding all_ram
made = record { one = refl; whole = refl }

pub all-ram-laws : AllRamLaws
all-ram-laws =
    record {
      made = made;
      admits = admits;
      reads = λ b m h e i a. read_at b m h (let-in m e) a i;
      stores = stores;
    }
