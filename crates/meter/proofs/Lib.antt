-- Laws of the walk, of the words that it reads, of the scan and of the meter for a region, the invariants of the loops, and laws of limits.
pub mod AnswerLaws
pub mod WalkLaws
pub mod ReadLaws
pub mod ScanLaws
pub mod RegionLaws
pub mod StretchLaws
pub mod Loops
pub mod AllRamLaws
pub mod LimitLaws
