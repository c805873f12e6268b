-- Demand 3, the processor and the wait meter together. Read Grants and Unstored, the demand's words, then Demand. Instances shows that its
-- premises are met, and Laws that its words mean what they should. AllRam says that document 01's board is still there,
-- Pairs that both file forms say the same, Reached what the second mode of the region meter names with the reached set, and Stays that no machine leaves
-- that set.
pub mod Grants
pub mod Unstored
pub mod Demand
pub mod Instances
pub mod Laws
pub mod AllRam
pub mod Pairs
pub mod Reached
pub mod Stays
