pub mod Told
pub mod Follow
pub mod Instructions
pub mod Advance
pub mod Placing
pub mod Tallying
pub mod Printing
pub mod Summing
