-- What the decoder and the row table promise. `Fields` and `Decode` say which instruction stands where, `Rows` what the table says of it.
pub mod Fields
pub mod Decode
pub mod Rows
pub mod Reads
pub mod Laws
