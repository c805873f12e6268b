-- Laws of the words that calls take and leave, of what the definitions behind them report, and of every call.
pub mod WordLaws
pub mod MapLaws
pub mod AnswerLaws
pub mod RuleLaws
pub mod ReportLaws
pub mod EndLaws
pub mod RefusedLaws
pub mod ReadLaws
pub mod ReachLaws
pub mod StepsLaws
pub mod LimitLaws
