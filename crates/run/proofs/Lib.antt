-- What is proved of the run: `RunLaws` has its induction and the ways that it can go, `LoopLaws` the code's loop.
pub mod RunLaws
pub mod LoopLaws
pub mod Laws
pub mod AllRamLaws
