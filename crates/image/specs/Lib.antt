-- What the loader and the writer promise. Read Format first, the form of a file; then Read, Load and Write. Laws says what they come to,
-- and Limits what a higher limit of a record's words changes.
pub mod Format
pub mod Read
pub mod Answer
pub mod Load
pub mod Write
pub mod Laws
pub mod Limits
pub mod Examples
pub mod Inner
