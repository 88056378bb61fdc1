pub mod Meets
pub mod Begun
pub mod Steps
pub mod Sets
pub mod Reached
