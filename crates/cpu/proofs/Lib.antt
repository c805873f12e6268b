-- What is proved of the processor. `ActionLaws` has the ways that a step can go, and the laws that follow from them.
pub mod AnswerLaws
pub mod ActionLaws
pub mod RowMarks
pub mod SoundLaws
pub mod BranchLaws
pub mod ShiftLaws
pub mod LocalLaws
pub mod AllRamLaws
pub mod RegisterLaws
pub mod RowAnswers
pub mod PlanLaws
pub mod CodeLaws
pub mod OperateLaws
pub mod StoreLaws
