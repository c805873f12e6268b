-- The worked cases that document 01 has proved, as one table.
pub mod Table
