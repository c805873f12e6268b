-- What the memory promises. Calls that decode see it, with the board's map, as a bus; files see its words.
pub mod Memory
pub mod Map
pub mod Bus
pub mod Near
pub mod Laws
