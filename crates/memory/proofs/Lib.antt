-- Laws of the memory and of the map.
pub mod Laws
pub mod BusLaws
pub mod MapLaws
pub mod NearLaws
pub mod AllRamLaws
