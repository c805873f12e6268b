-- Definitions in the code's shape.
pub mod Pass
pub mod Emit
