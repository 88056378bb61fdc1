pub mod Stops
pub mod Once
pub mod Listing
pub mod Written
pub mod Counts
