pub mod Near
pub mod Replaced
pub mod Stands
pub mod Laws
pub mod Empty
pub mod Held
pub mod Rotate
pub mod Flat
