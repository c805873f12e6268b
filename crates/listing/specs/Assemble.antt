-- Document 01, "Listing lines": "the assembler takes a line and D. It accepts exactly the lister's lines".
use Rattle.std.specs.Prelude.{ℕ, zero, suc, Bool, cond, List, [], ◌∷◌}
use Rattle.refusal.specs.declared.Refusal.TheVariants.{NotAListingLine}
use Rattle.refusal.specs.Refusals.{refusal_number}
use Rattle.refusal.specs.Report.{Report, refused, answered}
use Rattle.memory.specs.Bus.{bus_of, read_of}
use Rattle.text.specs.Text.{same_text}
use Rattle.listing.specs.Disassemble.{text_at}
use Rattle.listing.specs.Cut.{cut_at}

-- refusal 6: "line not one of the lister's"
abbrev pub no_line : Report (List ℕ)
no_line = refused (refusal_number NotAListingLine)

-- a text held to the line of three words: the words that it then stands for, cut
unfoldable pub held_to : List ℕ → Bool → ℕ → ℕ → ℕ → Report (List ℕ)
held_to text double w a b =
    let read : ℕ → ℕ = read_of (bus_of (w ∷ a ∷ b ∷ [])) in
    cond (same_text (text_at read 0 double) text) (answered (cut_at read 0 double)) no_line

abbrev pub or_else : Report (List ℕ) → Report (List ℕ) → Report (List ℕ)
or_else (refused n) other = other
or_else (answered ws) other = answered ws

-- an answer to one of the numbers below n, if there is any
unfoldable pub any_below : ℕ → (ℕ → Report (List ℕ)) → Report (List ℕ)
any_below zero f = no_line
any_below (suc n) f = or_else (f n) (any_below n f)

-- A text is accepted if any opcode with any two words after it lists as the text. This says which answer is right, and is no way to find it;
-- and it does not matter which words are found, as all that list alike are the same once they are cut (`SameLineSameWords`).
unfoldable pub assemble_of : List ℕ → Bool → Report (List ℕ)
assemble_of text double =
    any_below 1024 (λ w. any_below 65536 (λ a. any_below 65536 (λ b. held_to text double w a b)))
