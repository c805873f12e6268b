-- A mapping text, read from its front: "15, no first line, or a line not of this form or with its first word above its last". Which texts
-- are lines is said by printing: `TakesTexts` of Laws has it without any reading.
use Rattle.std.specs.Prelude.{ℕ, zero, suc, ◌+◌, ◌*◌, Bool, true, false, cond, ◌&&◌, List, [], ◌∷◌, eqb, leb, length, get_or, drop, Option, None, Some, Result, Ok, Err}
use Rattle.text.specs.Text.{digit_value, line_feed}
use Rattle.pair.specs.declared.line.Mapping.{Mapping}
use Rattle.refusal.specs.declared.Refusal.{Refusal}
use Rattle.refusal.specs.declared.Refusal.TheVariants.{MalformedMapping}
use Rattle.pair.specs.Format.{head_line, mapping_line, line_bytes}

-- the number whose four digits stand at a place, if digits stand there
unfoldable pub number_at : List ℕ → ℕ → ℕ
number_at text i =
    digit_value (get_or text i 0) * 0x1000
    + digit_value (get_or text (i + 1) 0) * 0x100
    + digit_value (get_or text (i + 2) 0) * 0x10
    + digit_value (get_or text (i + 3) 0)

-- the mapping whose line stands at the front, if one does: its numbers stand where `$0000 - $0FFF = $5000` has them
abbrev pub mapping_at : List ℕ → Mapping
mapping_at text = record { first = number_at text 1; last = number_at text 9; target = number_at text 17 }

-- whether a text begins with another
abbrev pub begins_with : List ℕ → List ℕ → Bool
begins_with text [] = true
begins_with [] (b ∷ front) = false
begins_with (a ∷ text) (b ∷ front) = eqb a b && begins_with text front

-- a mapping's line stands at the front, and its first word is not above its last
abbrev pub is_line : List ℕ → Mapping → Bool
is_line text m = begins_with text (mapping_line m) && leb m.first m.last

-- what stands at the front: an empty line, as None, a mapping's line, or neither
unfoldable pub front_of : List ℕ → Result (Option Mapping) Refusal
front_of text =
    cond (begins_with text (line_feed ∷ [])) (Ok None)
    (cond (is_line text (mapping_at text)) (Ok (Some (mapping_at text))) (Err MalformedMapping))

-- the mappings of all lines below the first one, or that a line is malformed
pub data Mappings : Type 0 where
  listed : List Mapping → Mappings
  malformed : Mappings

abbrev pub with_mapping : Mapping → Mappings → Mappings
with_mapping m (listed ms) = listed (m ∷ ms)
with_mapping m malformed = malformed

-- a line is followed by the rest of the text, which `on` reads
abbrev pub following : (List ℕ → Mappings) → List ℕ → Result (Option Mapping) Refusal → Mappings
following on text (Ok None) = on (drop 1 text)
following on text (Ok (Some m)) = with_mapping m (on (drop line_bytes text))
following on text (Err e) = malformed

-- by at most n lines: each has a byte or more, so that n runs out only at the end of the text. `MappingsEquation` says the same without n.
abbrev pub mappings_from : ℕ → List ℕ → Mappings
mappings_from zero text = listed []
mappings_from (suc n) text = cond (eqb (length text) 0) (listed []) (following (mappings_from n) text (front_of text))

unfoldable pub mappings_below : List ℕ → Mappings
mappings_below text = mappings_from (length text) text

-- the whole text: "only `[mapping]` first", then its lines
unfoldable pub mappings_of : List ℕ → Mappings
mappings_of cfg = cond (begins_with cfg head_line) (mappings_below (drop (length head_line) cfg)) malformed
