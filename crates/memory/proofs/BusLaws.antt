-- The laws of a bus, of the store of a step, and of admission.
use Prim.Native.Nat.{ℕ, ◌%◌, ◌<◌, ◌≤◌}
use mathlib.Core.Path.{◌≡◌, refl, ap, ◌∙◌}
use mathlib.Core.Bool.{Bool, true, false, cond, ◌&&◌}
use mathlib.Core.List.{List, [], ◌∷◌}
use native.Mathlib.Omega.{arith}
use lib.Dec.{ltb, lit<}
use lib.ListN.{length, get_or}
use Rattle.std.proofs.lemmas.List.{get_or_default}
use borrow.Author.Tests.{le-ltb, ltb-false}
use Rattle.refusal.specs.declared.Refusal.{Refusal}
use Rattle.refusal.specs.declared.Refusal.TheVariants.{MemoryTooLong}
use Rattle.std.specs.Prelude.{Result, Ok, Err}
use Rattle.memory.specs.declared.map.Board.{Board}
use Rattle.memory.specs.Memory.{peek_of}
use Rattle.memory.specs.Map.{Cell, rom, ram16, ram8, empty, cell_at, read_as, store_as}
use Rattle.memory.specs.Bus.{Access, plain, mapped, Bus, bus_of, bus_on, read_of, store_of, Store, keep, put, stored, map_admission, admission_of, unless_barred}
use Rattle.memory.specs.Laws.{Words, BusWords, AgreeAt, is_ram, takes_store, BusLaws}
use Rattle.memory.proofs.Laws.{poke-word, poke-laws}

-- a bus by how its words are reached
by-access : (P : Bus → Type 0) → ((m : List ℕ) → P (bus_of m)) → ((b : Board) (m : List ℕ) → P (bus_on b m)) → (s : Bus) → P s
by-access P p q s = go s.access
  where
    go : (a : Access) → P (record { words = s.words; access = a })
    go plain = p s.words
    go (mapped b) = q b s.words

-- what is read as a part counts by the lent word there alone
read-as-same : (q : Cell) (m n : List ℕ) (c : ℕ) → peek_of n c ≡ peek_of m c → read_as q n c ≡ read_as q m c
read-as-same rom m n c e = e
read-as-same ram16 m n c e = e
read-as-same ram8 m n c e = e
read-as-same empty m n c e = refl

read-as-word : (q : Cell) (m n : List ℕ) (c : ℕ) → (peek_of m c < 65536 → peek_of n c < 65536) → read_as q m c < 65536 → read_as q n c < 65536
read-as-word rom m n c f h = f h
read-as-word ram16 m n c f h = f h
read-as-word ram8 m n c f h = f h
read-as-word empty m n c f h = h

read-as-fits : (q : Cell) (m : List ℕ) (c : ℕ) → Words m → read_as q m c < 65536
read-as-fits rom m c h = h c
read-as-fits ram16 m c h = h c
read-as-fits ram8 m c h = h c
read-as-fits empty m c h = lit< tt

-- a store as a part
pub store-as-other : (p : Cell) (m : List ℕ) (a w c : ℕ) → (a ≡ c → ⊥) → peek_of (store_as p m a w) c ≡ peek_of m c
store-as-other rom m a w c h = refl
store-as-other ram16 m a w c h = poke-laws.other m a w c h
store-as-other ram8 m a w c h = poke-laws.other m a (w % 256) c h
store-as-other empty m a w c h = refl

pub store-as-length : (p : Cell) (m : List ℕ) (a w : ℕ) → length (store_as p m a w) ≡ length m
store-as-length rom m a w = refl
store-as-length ram16 m a w = poke-laws.keeps_length m a w
store-as-length ram8 m a w = poke-laws.keeps_length m a (w % 256)
store-as-length empty m a w = refl

store-as-word : (p : Cell) (m : List ℕ) (a w c : ℕ) → w < 65536 → peek_of m c < 65536 → peek_of (store_as p m a w) c < 65536
store-as-word rom m a w c k h = h
store-as-word ram16 m a w c k h = poke-word m a w c k h
store-as-word ram8 m a w c k h = poke-word m a (w % 256) c (omega arith) h
store-as-word empty m a w c k h = h

pub store-as-untaken : (p : Cell) (m : List ℕ) (a w : ℕ) → (is_ram p && ltb a (length m)) ≡ false → store_as p m a w ≡ m
store-as-untaken rom m a w e = refl
store-as-untaken ram16 m a w e = poke-laws.past_end m a w (ltb-false a (length m) e)
store-as-untaken ram8 m a w e = poke-laws.past_end m a (w % 256) (ltb-false a (length m) e)
store-as-untaken empty m a w e = refl

pub bus-laws : BusLaws
unfolding read_of store_of admission_of takes_store
bus-laws =
    record {
      one_to_one = λ m n e. ap (λ (s : Bus). s.words) e;
      one_to_one_on = λ b m n e. ap (λ (s : Bus). s.words) e;
      reads = λ m a. refl;
      stores = λ m a w. refl;
      words = λ m h. h;
      words_on = λ b m h a. read-as-fits (cell_at b a) m a h;
      other =
          by-access (λ (s : Bus). (a w c : ℕ) → (a ≡ c → ⊥) → read_of (store_of s a w) c ≡ read_of s c)
          (λ m a w c h. poke-laws.other m a w c h)
          (λ b m a w c h. read-as-same (cell_at b c) m (store_as (cell_at b a) m a w) c (store-as-other (cell_at b a) m a w c h));
      untaken =
          by-access (λ (s : Bus). (a w : ℕ) → takes_store s a ≡ false → store_of s a w ≡ s)
          (λ m a w e. ap bus_of (poke-laws.past_end m a w (ltb-false a (length m) e)))
          (λ b m a w e. ap (bus_on b) (store-as-untaken (cell_at b a) m a w e));
      keeps_admission =
          by-access (λ (s : Bus). (a w : ℕ) → admission_of (store_of s a w) ≡ admission_of s)
          (λ m a w. ap (λ (n : ℕ). cond (ltb 65536 n) (Err MemoryTooLong) (Ok tt)) (poke-laws.keeps_length m a w))
          (λ b m a w. ap (λ (n : ℕ). cond (ltb 65536 n) (Err MemoryTooLong) (map_admission (mapped b))) (store-as-length (cell_at b a) m a w));
      keeps_words =
          by-access (λ (s : Bus). (a w : ℕ) → BusWords s → w < 65536 → BusWords (store_of s a w))
          (λ m a w h k. poke-laws.keeps_words m a w h k)
          (λ b m a w h k c. read-as-word (cell_at b c) m (store_as (cell_at b a) m a w) c (store-as-word (cell_at b a) m a w c k) (h c));
    }

-- the word read within the lent words is the one that stands there
pub read-within : (m : List ℕ) (a : ℕ) → a < length m → read_of (bus_of m) a ≡ get_or m a 0
unfolding read_of peek_of
read-within m a h = get_or_default m a 0xFFFF 0 h

-- a run that no address exceeds is let in, and who is let in has no longer one
pub lets_in : (m : List ℕ) → length m ≤ 65536 → admission_of (bus_of m) ≡ Ok tt
unfolding admission_of
lets_in m h = rw (le-ltb 65536 (length m) h)

pub let-in : (m : List ℕ) → admission_of (bus_of m) ≡ Ok tt → length m ≤ 65536
unfolding admission_of
let-in m e = by_length (ltb 65536 (length m)) refl e
  where
    by_length : (t : Bool) → ltb 65536 (length m) ≡ t → cond t (Err MemoryTooLong) (Ok (tt {0})) ≡ Ok (tt {0}) → length m ≤ 65536
    by_length true h k = cc
    by_length false h k = ltb-false 65536 (length m) h

-- the store of a step
pub stored-admission : (b : Bus) (s : Store) → admission_of (stored b s) ≡ admission_of b
stored-admission b keep = refl
stored-admission b (put a w) = bus-laws.keeps_admission b a w

-- buses that agree
pub agree_same : (xs : List ℕ) (b : Bus) → AgreeAt xs b b
agree_same [] b = tt
agree_same (x ∷ xs) b = (refl, agree_same xs b)

pub agree-through : (xs : List ℕ) (a b c : Bus) → AgreeAt xs a b → AgreeAt xs b c → AgreeAt xs a c
agree-through [] a b c p q = tt
agree-through (x ∷ xs) a b c p q = (p.0 ∙ q.0, agree-through xs a b c p.1 q.1)

-- what holds of every refusal and of what is let in holds of the outcome
pub unless-both : {A : Type 0} (P : A → Type 0) (a : Result (Unit {0}) Refusal) {refuse : Refusal → A} {x : A} → ((r : Refusal) → P (refuse r)) → P x → P (unless_barred a refuse x)
unless-both P (Ok u) p q = q
unless-both P (Err r) p q = p r

pub unless-in : {A : Type 0} {a : Result (Unit {0}) Refusal} (refuse : Refusal → A) (x : A) → a ≡ Ok tt → unless_barred a refuse x ≡ x
unless-in refuse x e = ap (λ t. unless_barred t refuse x) e

pub unless-out : {A : Type 0} {a : Result (Unit {0}) Refusal} {r : Refusal} (refuse : Refusal → A) (x : A) → a ≡ Err r → unless_barred a refuse x ≡ refuse r
unless-out refuse x e = ap (λ t. unless_barred t refuse x) e
