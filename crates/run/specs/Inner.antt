-- Definitions in the code's shape.
pub mod Admission
pub mod Loop
