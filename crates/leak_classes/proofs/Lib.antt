pub mod Grown
pub mod Walked
pub mod Putting
