-- Laws of a run laid over another, of records put into memory, and of the cut.
pub mod OverLaws
pub mod PlacedLaws
pub mod RegionLaws
pub mod LoadLaws
