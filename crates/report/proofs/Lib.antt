-- Laws of the input, of the room, of the lines, of the calls, of the two loops, of the text on an all-RAM board, and of the metering's limit.
pub mod ReadingLaws
pub mod LengthLaws
pub mod PageLaws
pub mod LineLaws
pub mod CallLaws
pub mod WalkLaws
pub mod TextLaws
pub mod MeteringLaws
