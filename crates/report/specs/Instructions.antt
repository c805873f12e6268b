-- The listing's lines. Document 01: it "lists from them each record from its own address, D clear, one line an instruction that starts in
-- it: address, space, text". The memory is a reader, from an address to the word there.
use Rattle.std.specs.Prelude.{ℕ, zero, suc, ◌+◌, Bool, false, cond, List, [], ◌∷◌, ◌++◌, ltb}
use Rattle.memory.specs.Bus.{Bus, read_of}
use Rattle.listing.specs.Disassemble.{entry_at, text_at}
use Rattle.text.specs.Text.{hex_of}
use Rattle.report.specs.Text.{space}

unfoldable pub instruction_line : (ℕ → ℕ) → ℕ → Bool → List ℕ
instruction_line read at double = hex_of at ++ (space ∷ text_at read at double)

-- the lines from an address on, with D as it stands there, of the instructions that start before `end`: the next one starts behind the
-- words of this one, under the D that it leaves. By at most n lines, of a word or more each.
abbrev pub lines_from : ℕ → (ℕ → ℕ) → ℕ → ℕ → Bool → List (List ℕ)
lines_from zero read end at double = []
lines_from (suc n) read end at double =
    cond (ltb at end)
    (instruction_line read at double
    ∷ lines_from n read end (at + (entry_at read at double).words) (entry_at read at double).double)
    []

-- the lines of a record of so many words: "from its own address, D clear"
unfoldable pub instruction_lines : Bus → ℕ → ℕ → List (List ℕ)
instruction_lines b address count = lines_from count (read_of b) (address + count) address false
