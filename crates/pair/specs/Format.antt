-- Document 02, "Import from bin and cfg": the form of a mapping text. "Each line ends in a line feed; only `[mapping]` first, then empty
-- lines and lines of just that form, four upper-case digits each, are taken."
use Rattle.std.specs.Prelude.{ℕ, List, [], ◌∷◌, ◌++◌}
use Rattle.text.specs.Text.{codes, line_feed, hex_of}
use Rattle.pair.specs.declared.line.Mapping.{Mapping}

-- "only `[mapping]` first"
abbrev pub head_line : List ℕ
head_line = codes "[mapping]\n"

-- "lines such as `$0000 - $0FFF = $5000`: file word range, then target address", with the line feed
unfoldable pub mapping_line : Mapping → List ℕ
mapping_line m =
    codes "$" ++ (hex_of m.first ++ (codes " - $" ++ (hex_of m.last ++ (codes " = $" ++ (hex_of m.target ++ codes "\n")))))

-- its bytes, whatever the numbers
abbrev pub line_bytes : ℕ
line_bytes = 22

-- what a text has behind its first line: empty lines and mappings
pub data Item : Type 0 where
  blank : Item
  mapping : Mapping → Item

abbrev pub item_text : Item → List ℕ
item_text blank = line_feed ∷ []
item_text (mapping m) = mapping_line m

abbrev pub items_text : List Item → List ℕ
items_text [] = []
items_text (i ∷ is) = item_text i ++ items_text is

-- a whole text: "`[mapping]` first", and items
abbrev pub mapping_text : List Item → List ℕ
mapping_text is = head_line ++ items_text is

-- the bytes of a text of one mapping
abbrev pub text_bytes : ℕ
text_bytes = 32

-- the mappings among the items
abbrev pub mappings_in : List Item → List Mapping
mappings_in [] = []
mappings_in (blank ∷ is) = mappings_in is
mappings_in (mapping m ∷ is) = m ∷ mappings_in is
