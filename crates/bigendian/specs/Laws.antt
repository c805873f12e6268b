-- What holds of numbers in bytes. Statements; the proofs are in proofs/.
use Rattle.std.specs.Prelude.{ℕ, ◌+◌, ◌*◌, ◌≤◌, ◌≡◌, List, ◌++◌, length}
use Rattle.std.proofs.lemmas.List.Edits.{sets}
use Rattle.bigendian.specs.Numbers.{words_of, all_words, bytes_of, put_words}

pub record NumberLaws : Type 0 where
  -- numbers that were put as bytes are read again, whatever follows them
  pub back : (ws rest : List ℕ) → words_of (length ws) (bytes_of ws ++ rest) ≡ ws
  pub all_back : (ws : List ℕ) → all_words (bytes_of ws) ≡ ws
  -- two bytes a number
  pub size : (ws : List ℕ) → length (bytes_of ws) ≡ length ws * 2
  -- where all fit, all are put
  pub put : (room : List ℕ) (at : ℕ) (ws : List ℕ) → at + length ws * 2 ≤ length room → put_words room at ws ≡ sets room at (bytes_of ws)
