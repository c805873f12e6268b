-- Document 01, "Image records": "numbers big-endian", two bytes each; document 02: "a flat file of big-endian 16-bit words".
use Rattle.std.specs.Prelude.{ℕ, zero, suc, ◌+◌, ◌-◌, ◌*◌, ◌/◌, ◌%◌, List, [], ◌∷◌, length, get_or, take, drop}
use Rattle.std.proofs.lemmas.List.Edits.{sets}

-- the number at byte i: the high byte first. A byte past the end counts as 0.
unfoldable pub word_at : List ℕ → ℕ → ℕ
word_at bytes i = get_or bytes i 0 * 256 + get_or bytes (i + 1) 0

-- the first n numbers
abbrev pub words_of : ℕ → List ℕ → List ℕ
words_of zero bytes = []
words_of (suc n) bytes = word_at bytes 0 ∷ words_of n (drop 2 bytes)

-- all whole numbers
abbrev pub all_words : List ℕ → List ℕ
all_words bytes = words_of (length bytes / 2) bytes

-- numbers as bytes
abbrev pub bytes_of : List ℕ → List ℕ
bytes_of [] = []
bytes_of (w ∷ ws) = w / 256 ∷ w % 256 ∷ bytes_of ws

-- numbers added up
abbrev pub total : List ℕ → ℕ
total [] = 0
total (w ∷ ws) = w + total ws

-- how many whole numbers a room of `size` bytes has from byte `at` on
abbrev pub fitting : ℕ → ℕ → ℕ
fitting size at = (size - at) / 2

-- numbers put into a room from byte `at` on, as many as it has room for
unfoldable pub put_words : List ℕ → ℕ → List ℕ → List ℕ
put_words room at ws = sets room at (bytes_of (take (fitting (length room) at) ws))
