-- Laws of reads and stores.
use Prim.Native.Nat.{ℕ, zero, suc, ◌<◌, ◌≤◌}
use mathlib.Core.Path.{◌≡◌, sym}
use mathlib.Core.List.{List, [], ◌∷◌}
use lib.Dec.{lit<}
use lib.ListN.{length, get_or, set, length-set}
use lib.Seq.{get_or-set_same, get_or-set_other, set_out}
use Rattle.memory.specs.Memory.{peek_of, poke_of}
use Rattle.memory.specs.Laws.{Words, PokeLaws}

-- words of 16 bits, whatever a read past their end gives
pub fits-words : (m : List ℕ) → ((a : ℕ) → get_or m a 0 < 65536) → Words m
unfolding peek_of
fits-words [] h a = lit< tt
fits-words (w ∷ m) h zero = h zero
fits-words (w ∷ m) h (suc a) = fits-words m (λ b. h (suc b)) a

pub words_fit : (m : List ℕ) → Words m → (a : ℕ) → get_or m a 0 < 65536
unfolding peek_of
words_fit [] h a = lit< tt
words_fit (w ∷ m) h zero = h zero
words_fit (w ∷ m) h (suc a) = words_fit m (λ b. h (suc b)) a

peek-same : (m : List ℕ) (a w : ℕ) → a < length m → peek_of (poke_of m a w) a ≡ w
unfolding peek_of poke_of
peek-same m a w h = get_or-set_same m a w 0xFFFF h

peek-other : (m : List ℕ) (a w b : ℕ) → (a ≡ b → ⊥) → peek_of (poke_of m a w) b ≡ peek_of m b
unfolding peek_of poke_of
peek-other m a w b h = get_or-set_other m a b w 0xFFFF (λ e. h (sym e))

poke-past : (m : List ℕ) (a w : ℕ) → length m ≤ a → poke_of m a w ≡ m
unfolding poke_of
poke-past m a w h = set_out m a w h

poke-length : (m : List ℕ) (a w : ℕ) → length (poke_of m a w) ≡ length m
unfolding poke_of
poke-length m a w = length-set m a w

-- a store leaves at each address the old word or the word stored
set_words : (m : List ℕ) (a w b d : ℕ) → w < 65536 → get_or m b d < 65536 → get_or (set m a w) b d < 65536
set_words [] a w b d p q = q
set_words (x ∷ m) zero w zero d p q = p
set_words (x ∷ m) zero w (suc b) d p q = q
set_words (x ∷ m) (suc a) w zero d p q = q
set_words (x ∷ m) (suc a) w (suc b) d p q = set_words m a w b d p q

pub poke-word : (m : List ℕ) (a w b : ℕ) → w < 65536 → peek_of m b < 65536 → peek_of (poke_of m a w) b < 65536
unfolding peek_of poke_of
poke-word m a w b p h = set_words m a w b 0xFFFF p h

pub poke-laws : PokeLaws
poke-laws =
    record {
      same = peek-same;
      other = peek-other;
      past_end = poke-past;
      keeps_length = poke-length;
      keeps_words = λ m a w h p b. poke-word m a w b p (h b);
    }
