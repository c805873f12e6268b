-- What the reader and the writer of pairs promise. Read Format first, the form of a mapping text; then Read, Load and Write. Laws says what
-- they come to.
pub mod Format
pub mod Read
pub mod Load
pub mod Answer
pub mod Write
pub mod Laws
pub mod Examples
pub mod Inner
