-- Laws of the decoder and of the row table.
pub mod OpcodeLaws
pub mod DecodeLaws
pub mod RowLaws
pub mod ReadLaws
pub mod Tables
