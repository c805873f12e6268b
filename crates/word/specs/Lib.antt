-- What 16-bit words, flags and shifts promise.
pub mod Word
pub mod Flags
pub mod Shifts
pub mod ThroughCarry
pub mod Inner
