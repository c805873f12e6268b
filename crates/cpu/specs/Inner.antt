-- Definitions in the code's shape.
pub mod Parts
pub mod Change
pub mod Control
pub mod Single
pub mod Operate
pub mod Store
