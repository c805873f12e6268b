-- Demand 3, all-RAM, pairs, and reached starts. `Instances` depends on none of the others.
pub mod Instances
pub mod GrantLaws
pub mod StepLaws
pub mod FollowLaws
pub mod Demand
pub mod AllRam
pub mod Pairs
pub mod Reached
pub mod StayLaws
