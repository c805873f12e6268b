-- Laws of choices, of words, of their bits and of flags.
pub mod Choice
pub mod WordLaws
pub mod BitLaws
pub mod FlagLaws
pub mod ThroughCarry
pub mod SetsLaws
