pub mod Gain
pub mod Tries
pub mod Information
pub mod Worth
pub mod Reached
pub mod Programs
pub mod Own
