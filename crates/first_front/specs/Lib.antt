pub mod Told
pub mod Intervals
pub mod Front
pub mod Chosen
pub mod Enough
