-- What the refusals promise, and the report that every call answers by.
pub mod Refusals
pub mod Report
