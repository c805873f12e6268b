-- Computed tests, and laws of digits and of texts compared.
pub mod Tests
pub mod Digits
