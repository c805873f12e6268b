-- Definitions in the code's shape: a word as its bits.
pub mod Bits
