-- What a set of addresses promises.
pub mod Bits
pub mod Laws
