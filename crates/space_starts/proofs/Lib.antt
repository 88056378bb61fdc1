pub mod Choosing
pub mod Values
pub mod Meeting
