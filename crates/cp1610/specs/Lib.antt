-- What the C interface promises: docs/C-INTERFACE.md, called the C interface page here, as definitions. Read Called and Call first.
pub mod Words
pub mod MapWords
pub mod Answers
pub mod Called
pub mod Call
pub mod MeterCall
pub mod ImageCall
pub mod PairCall
pub mod ReachCall
pub mod ListingCall
pub mod Calls
pub mod Read
pub mod Laws
