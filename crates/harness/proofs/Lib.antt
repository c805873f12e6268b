-- Laws of rows, of their fields, of bytes in digits, of runs of words, and of ranges.
pub mod TextLaws
pub mod RowLaws
pub mod CaseLaws
pub mod ByteLaws
pub mod FieldLaws
pub mod RangeLaws
