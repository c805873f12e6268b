-- Document 01, "Refusal numbers": the number of each refusal. "Each new number joins 01's table."
use Rattle.std.specs.Prelude.{ℕ, ◌<◌, Result, Ok, Err}
use Rattle.refusal.specs.Report.{Report, refused, answered, OneToOne}
use Rattle.refusal.specs.declared.Refusal.{Refusal}
use Rattle.refusal.specs.declared.Refusal.TheVariants.{
  MemoryTooLong,
  Halted,
  Unspecified,
  BudgetTooHigh,
  TextRoomTooSmall,
  NotAListingLine,
  FirstAboveLast,
  LimitTooHigh,
  MalformedImage,
  WrongBoard,
  PastMemory,
  SumDiffers,
  RoomTooSmall,
  BadMap,
  MalformedMapping,
  MissingFileWords,
  TooManyEntries,
  WrongSetLength,
}

abbrev pub refusal_number : Refusal → ℕ
-- memory above 65,536 words
refusal_number MemoryTooLong = 1
-- step or run on a halted machine
refusal_number Halted = 2
-- step meets an unspecified form
refusal_number Unspecified = 3
-- budget above 1,000,000
refusal_number BudgetTooHigh = 4
-- text room under 16 bytes
refusal_number TextRoomTooSmall = 5
-- line not one of the lister's
refusal_number NotAListingLine = 6
-- first above last
refusal_number FirstAboveLast = 7
-- limit above 4,096
refusal_number LimitTooHigh = 8
-- missing or wrong mark, cut file, count 0 or above 4,096 (document 02, [7]), bytes after OK; before all, over-long program input
refusal_number MalformedImage = 9
-- ID board not the board given
refusal_number WrongBoard = 10
-- record, mapping target or written region past the lent memory
refusal_number PastMemory = 11
-- sum differs
refusal_number SumDiffers = 12
-- image room too small, or either room of a written pair
refusal_number RoomTooSmall = 13
-- document 02: more than 16 ranges or one with first above last
refusal_number BadMap = 14
-- document 02: no first line, or a line not of this form or with its first word above its last
refusal_number MalformedMapping = 15
-- document 02: file words named that aren't there or an odd byte count
refusal_number MissingFileWords = 16
-- document 02: entry list above 16
refusal_number TooManyEntries = 17
-- document 02: a set buffer not of 1,024 words
refusal_number WrongSetLength = 18

-- what is told of a result: the number of its refusal, or what `tells` makes of its answer
abbrev pub reported : {A B : Type 0} → (A → B) → Result A Refusal → Report B
reported tells (Err r) = refused (refusal_number r)
reported tells (Ok x) = answered (tells x)

-- no two refusals share a number
abbrev pub NumbersApart : Type 0
NumbersApart = OneToOne refusal_number

-- every number has at most two decimal digits, as the programs print it, and lies below 255, which is free for callers: the C interface
-- answers that for a short buffer
abbrev pub NumbersLow : Type 0
NumbersLow = (r : Refusal) → refusal_number r < 100
