-- What the two programs print. Read Program first; it cites Reading, Instructions and Regions. Laws says what holds of every text, and Metering at which
-- limit the metering program walks. `Inner` says how the code puts a text together; no public contract cites it.
pub mod Text
pub mod Reading
pub mod Instructions
pub mod Regions
pub mod Program
pub mod Streams
pub mod Laws
pub mod Metering
pub mod Inner
