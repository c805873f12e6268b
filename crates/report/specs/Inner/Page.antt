-- How the text comes into the room, piece by piece. No public contract speaks of these.
use Rattle.std.specs.Prelude.{ℕ, ◌+◌, ◌*◌, ◌/◌, ◌≤◌, ◌≡◌, Bool, List, [], ◌∷◌, length}
use Rattle.std.proofs.lemmas.List.Edits.{sets}
use Rattle.report.specs.declared.page.Page.{Page}
use Rattle.listing.specs.declared.Listed.{Listed}
use Rattle.listing.specs.Disassemble.{entry_at}
use Rattle.image.specs.Format.{record_limit}
use Rattle.image.specs.Read.{WholeFile}
use Rattle.report.specs.Reading.{board_words, input_limit}
use Rattle.report.specs.Text.{lines_text}
use Rattle.report.specs.Instructions.{instruction_line}

-- ten bytes for each byte of the longest input: a word of a record has two bytes, and a line for it at most twenty
abbrev pub lines_room : ℕ
lines_room = input_limit * 10

-- and the first line and the last one
abbrev pub text_room : ℕ
text_room = 11 + lines_room + 9

-- so many bytes have room behind what is put, in which each line that is counted has a byte
abbrev pub HasRoom : Page → ℕ → Type 0
HasRoom page n = (page.lines ≤ page.at) × (page.at + n ≤ length page.room.now)

-- bytes are put into a room from one place to another, and fit there
pub record Puts (before : List ℕ) (at : ℕ) (bytes : List ℕ) (after : List ℕ) (to : ℕ) : Type 0 where
  pub within : at + length bytes ≤ length before
  pub place : to ≡ at + length bytes
  pub room : after ≡ sets before at bytes

-- what a page that is written to keeps: the room, which the caller lent, and its size
pub record Stays (before after : Page) : Type 0 where
  pub same_room : after.room.ghost_name ≡ before.room.ghost_name
  pub size : length after.room.now ≡ length before.room.now

-- bytes are put on a page, and no line is counted
pub record Writes (before : Page) (bytes : List ℕ) (after : Page) : Type 0 where
  pub stays : Stays before after
  pub puts : Puts before.room.now before.at bytes after.room.now after.at
  pub lines : after.lines ≡ before.lines

-- so are lines, which are counted
pub record Adds (before : Page) (lines : List (List ℕ)) (after : Page) : Type 0 where
  pub stays : Stays before after
  pub puts : Puts before.room.now before.at (lines_text lines) after.room.now after.at
  pub count : after.lines ≡ before.lines + length lines

-- a page on which nothing is put, with room for every text
pub record IsBlank (page : Page) : Type 0 where
  pub at : page.at ≡ 0
  pub lines : page.lines ≡ 0
  pub size : text_room ≤ length page.room.now

-- a whole text is put on a page
pub record Prints (before : Page) (text : List ℕ) (after : Page) : Type 0 where
  pub same_room : after.room.ghost_name ≡ before.room.ghost_name
  pub puts : Puts before.room.now before.at text after.room.now after.at

-- a file that was loaded into the board's memory
pub record Ready (file : List ℕ) : Type 0 where
  pub short : length file ≤ input_limit
  pub whole_file : WholeFile record_limit board_words file

-- the lines of all records
pub record Fills (before : Page) (lines : List (List ℕ)) (after : Page) : Type 0 where
  pub adds : Adds before lines after
  pub size : after.at ≤ before.at + lines_room
  pub few : after.lines ≤ before.lines + input_limit / 2

-- an instruction's line, and where the next one starts
pub record Steps (read : ℕ → ℕ) (address : ℕ) (double : Bool) (before : Page) (after : Page) (next : Listed) : Type 0 where
  pub adds : Adds before (instruction_line read address double ∷ []) after
  pub words : next.words ≡ (entry_at read address double).words
  pub under : next.double ≡ (entry_at read address double).double
