-- What the wait meter promises. Read Walk and Meter first, then Laws, which says what they come to, Limits, which says what a limit of 0 and any other one
-- ask for, and AllRam, which compares them under a board's map with the base.
pub mod Answer
pub mod Walk
pub mod Scan
pub mod Meter
pub mod Reads
pub mod Laws
pub mod Limits
pub mod AllRam
pub mod Inner
