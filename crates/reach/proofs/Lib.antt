-- Laws of the exploration and of the summary.
pub mod MarkLaws
pub mod ExploreLaws
pub mod SummaryLaws
pub mod FollowLaws
pub mod WayLaws
pub mod ReachLaws
