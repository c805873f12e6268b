-- A range at hand changes no read.
use Prim.Native.Nat.{ℕ, zero, suc}
use mathlib.Core.Path.{◌≡◌, refl, sym}
use mathlib.Core.Bool.{Bool, true, false, cond}
use mathlib.Core.List.{List, [], ◌∷◌}
use native.Mathlib.Omega.{arith}
use lib.Dec.{leb}
use Rattle.std.proofs.lemmas.Bool.{and_parts}
use borrow.Author.Tests.{leb-true, le-leb, lt-leb}
use Rattle.memory.specs.declared.map.Kind.{Kind}
use Rattle.memory.specs.declared.map.Kind.TheVariants.{Rom, Ram16, Ram8}
use Rattle.memory.specs.declared.map.Range.{Range}
use Rattle.memory.specs.declared.map.Board.{Board}
use Rattle.std.specs.Prelude.{Option, None, Some, is_some, not}
use Rattle.memory.specs.Memory.{peek_of}
use Rattle.memory.specs.Map.{holds, ranges_of, deciding, Cell, rom, ram16, ram8, empty, cell_of, cell_in, cell_at, read_as}
use Rattle.memory.specs.Bus.{bus_on, read_of}
use Rattle.memory.specs.Near.{in_front, no_range, range_in, near_of, is_empty, Near}
use Rattle.memory.specs.Laws.{NearLaws}

-- no range is of empty words
pub kind-there : (k : Kind) → is_empty (cell_of k) ≡ false
kind-there Rom = refl
kind-there Ram16 = refl
kind-there Ram8 = refl

-- a range that decides says that the word is not empty
pub some-there : (f : Option Range) → is_some f ≡ not (is_empty (cell_in f))
some-there None = refl
some-there (Some r) = rw (kind-there r.kind)

-- what is there reads as lent, and what is not as $FFFF
pub read-lent : (p : Cell) (m : List ℕ) (a : ℕ) → true ≡ not (is_empty p) → peek_of m a ≡ read_as p m a
read-lent rom m a e = refl
read-lent ram16 m a e = refl
read-lent ram8 m a e = refl
read-lent empty m a e = cc

pub read_none : (p : Cell) (m : List ℕ) (a : ℕ) → false ≡ not (is_empty p) → 0xFFFF ≡ read_as p m a
read_none rom m a e = cc
read_none ram16 m a e = cc
read_none ram8 m a e = cc
read_none empty m a e = refl

-- a read asks whether a word is empty, and nothing else
pub read-there : (p : Cell) (m : List ℕ) (a : ℕ) → read_as p m a ≡ cond (is_empty p) 0xFFFF (peek_of m a)
read-there rom m a = refl
read-there ram16 m a = refl
read-there ram8 m a = refl
read-there empty m a = refl

read_alike : (p q : Cell) (m : List ℕ) (a : ℕ) → is_empty p ≡ is_empty q → read_as p m a ≡ read_as q m a
read_alike p q m a e = rw (read-there p m a, read-there q m a, e)

-- by whether the first range holds each of two addresses
held_by : (s r : Range) (x y : Option Range) (t u : Bool) (c : ℕ) → holds s c ≡ u → holds r c ≡ true → cond t (Some s) x ≡ Some r → (x ≡ Some r → is_empty (cell_in y) ≡ false) → is_empty (cell_in (cond u (Some s) y)) ≡ false
held_by s r x y t true c d h p f = kind-there s.kind
held_by s r x y true false c d h p f = cc
held_by s r x y false false c d h p f = f p

-- no word is empty that a deciding range holds
held : (l : List Range) (r : Range) (a c : ℕ) → holds r c ≡ true → deciding l a ≡ Some r → is_empty (cell_in (deciding l c)) ≡ false
held [] r a c h p = cc
held (s ∷ l) r a c h p = held_by s r (deciding l a) (deciding l c) (holds s a) (holds s c) c refl h p (held l r a c h)

none : (b : Board) → Near b no_range
unfolding no_range holds
none b a h =
    let k = and_parts (leb 1 a) (leb a 0) h in
    absurd (omega (arith, leb-true 1 a k.0, leb-true a 0 k.1))

found : (b : Board) (a : ℕ) (f : Option Range) → deciding (ranges_of b) a ≡ f → Near b (range_in f)
unfolding cell_at
found b a None e = none b
found b a (Some r) e = λ x h. held (ranges_of b) r a x h e

moves-by : (b : Board) (near other : Range) (t : Bool) → Near b near → Near b other → Near b (cond t near other)
moves-by b near other true n o = n
moves-by b near other false n o = o

moves : (b : Board) (near : Range) (a : ℕ) → Near b near → Near b (near_of b near a)
unfolding near_of
moves b near a n = moves-by b near (range_in (deciding (ranges_of b) a)) (holds near a) n (found b a (deciding (ranges_of b) a) refl)

-- the word with a range in front, by whether it holds the address
front_by : (k : Kind) (near : Range) (y : Option Range) (t : Bool) → near.kind ≡ k → (t ≡ true → is_empty (cell_in y) ≡ false) → is_empty (cell_in (cond t (Some near) y)) ≡ is_empty (cell_in y)
front_by k near y true e f = rw (kind-there near.kind, f refl)
front_by k near y false e f = refl

there : (b : Board) (near : Range) (a : ℕ) → Near b near → is_empty (cell_at (in_front near b) a) ≡ is_empty (cell_at b a)
unfolding cell_at
there b near a n = front_by near.kind near (deciding (ranges_of b) a) (holds near a) refl (n a)

reads : (b : Board) (near : Range) (m : List ℕ) → Near b near → read_of (bus_on (in_front near b) m) ≡ read_of (bus_on b m)
unfolding read_of
reads b near m n = λ i a. read_alike (cell_at (in_front near b) a) (cell_at b a) m a (there b near a n) i

-- whether the word at an address is empty, with a range in front: it holds the address, or the map has it
pub front-empty : (b : Board) (near : Range) (a : ℕ) → is_empty (cell_at (in_front near b) a) ≡ cond (holds near a) false (is_empty (cell_in (deciding (ranges_of b) a)))
unfolding cell_at
front-empty b near a = by-hold (holds near a)
  where
    by-hold : (t : Bool) → is_empty (cell_in (cond t (Some near) (deciding (ranges_of b) a))) ≡ cond t false (is_empty (cell_in (deciding (ranges_of b) a)))
    by-hold true = kind-there near.kind
    by-hold false = refl

-- a range that decides over an address holds it
decides-by : (s r : Range) (a : ℕ) (x : Option Range) (t : Bool) → holds s a ≡ t → cond t (Some s) x ≡ Some r → (x ≡ Some r → holds r a ≡ true) → holds r a ≡ true
decides-by s r a x true h k f = let z : s ≡ r = cc in rw (← z) h
decides-by s r a x false h k f = f k

decides : (l : List Range) (r : Range) (a : ℕ) → deciding l a ≡ Some r → holds r a ≡ true
decides [] r a e = cc
decides (s ∷ l) r a e = decides-by s r a (deciding l a) (holds s a) refl e (decides l r a)

-- no range holds no address
pub none-holds : (a : ℕ) → holds no_range a ≡ false
unfolding no_range holds
none-holds zero = refl
none-holds (suc a) = rw (le-leb 1 (suc a) (omega arith), lt-leb (suc a) 0 (omega arith))

-- looked up anew, the word is as empty
again : (b : Board) (a : ℕ) (f : Option Range) → deciding (ranges_of b) a ≡ f → is_empty (cell_at (in_front (range_in f) b) a) ≡ is_empty (cell_in f)
unfolding no_range holds
again b a None e = rw (front-empty b no_range a, e, none-holds a)
again b a (Some r) e = rw (front-empty b r a, decides (ranges_of b) r a e, kind-there r.kind)

fetches : (b : Board) (near : Range) (m : List ℕ) (a : ℕ) → read_of (bus_on (in_front near b) m) a ≡ read_of (bus_on (in_front (near_of b near a) b) m) a
unfolding read_of near_of
fetches b near m a = by-hold (holds near a) refl
  where
    by-hold : (t : Bool) → holds near a ≡ t → read_as (cell_at (in_front near b) a) m a ≡ read_as (cell_at (in_front (cond t near (range_in (deciding (ranges_of b) a))) b) a) m a
    by-hold true h = refl
    by-hold false h =
        read_alike (cell_at (in_front near b) a) (cell_at (in_front (range_in (deciding (ranges_of b) a)) b) a) m a
        (rw (front-empty b near a, h) (sym (again b a (deciding (ranges_of b) a) refl)))

pub near-laws : NearLaws
near-laws = record { none = none; moves = moves; reads = reads; fetches = fetches }
