-- The records that words are cut into: "full records of 4,096, the last perhaps shorter", as document 02 amends it; the limit is a parameter.
use Rattle.std.specs.Prelude.{ℕ, zero, suc, ◌+◌, ◌-◌, ◌/◌, cond, List, [], ◌∷◌, eqb, length, take, drop}
use Rattle.records.specs.Records.{Record, record_over}

-- the words ws from address a on, cut into records of `limit` words, the last perhaps shorter: each begins where the one before it
-- ends. By at most n records, of a word or more each; `CutLaws.equation` says the same without n.
abbrev pub cut_from : ℕ → ℕ → ℕ → List ℕ → List Record
cut_from zero limit a ws = []
cut_from (suc n) limit a ws =
    cond (eqb (length ws) 0) []
    (record_over a (take limit ws) ∷ cut_from n limit (a + length (take limit ws)) (drop limit ws))

unfoldable pub cut_of : ℕ → ℕ → List ℕ → List Record
cut_of limit a ws = cut_from (length ws) limit a ws

-- how many records n words make
abbrev pub record_count : ℕ → ℕ → ℕ
record_count limit n = (n + (limit - 1)) / limit
