-- Who is let in with a map, and what a store under it changes, by what stands at the address.
use Prim.Native.Nat.{ℕ, ◌%◌, ◌≤◌}
use mathlib.Core.Path.{◌≡◌, refl, ap, sym, ◌∙◌}
use mathlib.Core.Bool.{false, ◌&&◌}
use mathlib.Core.List.{List}
use lib.Dec.{ltb}
use lib.ListN.{length}
use borrow.Author.Tests.{le-ltb}
use Rattle.memory.specs.declared.map.Board.{Board}
use Rattle.memory.specs.Memory.{peek_of}
use Rattle.memory.specs.Map.{Cell, rom, ram16, ram8, empty, cell_at, read_as, store_as}
use Rattle.memory.specs.Bus.{Bus, bus_on, read_of, store_of, admission_of}
use Rattle.memory.specs.Laws.{is_ram, AdmissionLaws, MapLaws}
use Rattle.memory.proofs.Laws.{poke-laws}
use Rattle.memory.proofs.BusLaws.{store-as-other, store-as-length, store-as-untaken}

past-untaken : (p : Cell) (m : List ℕ) (a : ℕ) → length m ≤ a → (is_ram p && ltb a (length m)) ≡ false
past-untaken rom m a h = refl
past-untaken ram16 m a h = le-ltb a (length m) h
past-untaken ram8 m a h = le-ltb a (length m) h
past-untaken empty m a h = refl

-- the words of a bus that is known
words-in : (b : Board) (m n : List ℕ) → bus_on b m ≡ bus_on b n → m ≡ n
words-in b m n e = ap (λ (s : Bus). s.words) e

pub admission-laws : AdmissionLaws
unfolding admission_of
admission-laws =
    record {
      length_first = λ b m e. rw e;
      map_after = λ b m e f. rw (e, f);
      lets_in = λ b m e f. rw (e, f);
    }

pub map-laws : MapLaws
unfolding read_of store_of
map-laws =
    record {
      reads_empty = λ b m a e. ap (λ (p : Cell). read_as p m a) e;
      reads_rom = λ b m a e. ap (λ (p : Cell). read_as p m a) e;
      reads_ram16 = λ b m a e. ap (λ (p : Cell). read_as p m a) e;
      reads_ram8 = λ b m a e. ap (λ (p : Cell). read_as p m a) e;
      keeps_rom = λ b m a w e. ap (λ (p : Cell). bus_on b (store_as p m a w)) e;
      keeps_empty = λ b m a w e. ap (λ (p : Cell). bus_on b (store_as p m a w)) e;
      keeps_past = λ b m a w h. ap (bus_on b) (store-as-untaken (cell_at b a) m a w (past-untaken (cell_at b a) m a h));
      reads_back = λ b m a w h e. rw e (poke-laws.same m a w h);
      reads_back_low = λ b m a w h e. rw e (poke-laws.same m a (w % 256) h);
      lent_after = λ b m a w. record { words = store_as (cell_at b a) m a w; lent = refl };
      keeps_length = λ b m n a w e. ap length (sym (words-in b _ n e)) ∙ store-as-length (cell_at b a) m a w;
      keeps_other = λ b m n a w c e h. ap (λ (l : List ℕ). peek_of l c) (sym (words-in b _ n e)) ∙ store-as-other (cell_at b a) m a w c h;
    }
