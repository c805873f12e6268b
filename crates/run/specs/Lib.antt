-- What the run promises. `Inner` has a definition that mirrors the code's loop; no public contract cites it.
pub mod Run
pub mod Laws
pub mod AllRam
pub mod Inner
