-- The bytes of a text, and the numbers in it.
use Rattle.std.specs.Prelude.{ℕ, zero, suc, ◌+◌, ◌/◌, ◌%◌, Bool, true, false, cond, ◌&&◌, List, [], ◌∷◌, eqb, ltb, get_or}
use Prim.Native.Char.{code}
use Prim.Native.String.{String, len, char_at}

-- n characters of a string from the i-th, as bytes
abbrev pub codes_from : ℕ → String → ℕ → List ℕ
codes_from zero s i = []
codes_from (suc n) s i = code (char_at s i) ∷ codes_from n s (suc i)

-- the bytes of a text
abbrev pub codes : String → List ℕ
codes s = codes_from (len s) s 0

-- what ends a line
abbrev pub line_feed : ℕ
line_feed = code "\n"

-- "Digits are upper case": the hexadecimal digit of a value, which lies below 16
unfoldable pub digit_of : ℕ → ℕ
digit_of v = get_or (codes "0123456789ABCDEF") v 0

-- the four hexadecimal digits of a word
unfoldable pub hex_of : ℕ → List ℕ
hex_of w = digit_of (w / 0x1000 % 16) ∷ digit_of (w / 0x100 % 16) ∷ digit_of (w / 0x10 % 16) ∷ digit_of (w % 16) ∷ []

-- the value of a digit; a byte that is no digit has one below 16, too
unfoldable pub digit_value : ℕ → ℕ
digit_value b = cond (ltb b (code "A")) (b % 16) ((b + 9) % 16)

-- whether two texts are the same
abbrev pub same_text : List ℕ → List ℕ → Bool
same_text [] [] = true
same_text [] (y ∷ m) = false
same_text (x ∷ l) [] = false
same_text (x ∷ l) (y ∷ m) = eqb x y && same_text l m
