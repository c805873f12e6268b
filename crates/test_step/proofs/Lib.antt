-- The table of worked cases holds.
pub mod Table
