-- Numbers in bytes: what they are, and what holds of them.
pub mod Numbers
pub mod Laws
