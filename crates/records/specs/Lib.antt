-- What records do to memory. Read Records first; Loading has what a loading leaves, Region the words that are written, Cut the records
-- that these are cut into, and Laws says what they come to.
pub mod Records
pub mod Loading
pub mod Region
pub mod Cut
pub mod Laws
