pub mod Sorts
pub mod Following
pub mod Parts
