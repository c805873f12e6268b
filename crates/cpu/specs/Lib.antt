-- The processor in document 01's terms. Read Machine first, the state, and Step, the order of a step. Then Execute, one instruction, and the rows
-- that it takes, a paragraph of the paper each: Control, Single, Operate, Branch, Modes. Laws says what holds of every step, AllRam that an all-RAM
-- map changes none.
pub mod Machine
pub mod Answer
pub mod Control
pub mod Single
pub mod Operate
pub mod Branch
pub mod Modes
pub mod Reads
pub mod Execute
pub mod Step
pub mod Steps
pub mod Laws
pub mod AllRam
pub mod Inner
