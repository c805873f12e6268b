-- Laws of numbers in bytes, and of the loops that read, put and add them.
pub mod NumberLaws
pub mod SumLaws
pub mod PutLaws
pub mod ReadLaws
