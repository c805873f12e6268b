-- What the set of reached addresses promises. Read Ways and Paths, then Reach and Summary; Laws says that they fix the buffers, and what the counts are.
pub mod Ways
pub mod Paths
pub mod Summary
pub mod Answer
pub mod Reach
pub mod Laws
pub mod Inner
