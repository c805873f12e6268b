-- Definitions in the code's shape: a table of rows, a line as a row with its fields.
pub mod Rows
pub mod Line
pub mod Guess
pub mod Entry
pub mod Encode
pub mod Laws
