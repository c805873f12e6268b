-- Laws of reading and of the loops, of written and damaged files, and of two cuts and two limits.
pub mod ReadLaws
pub mod PassLaws
pub mod LoadLaws
pub mod HeadLaws
pub mod FirstLaws
pub mod EmitLaws
pub mod OutcomeLaws
pub mod TripLaws
pub mod DamageLaws
pub mod LimitLaws
pub mod LimitExamples
pub mod Examples
