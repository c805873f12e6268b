-- The bytes of texts and the numbers in them, and what holds of digits.
pub mod Text
pub mod Laws
