pub mod Seen
pub mod Bounded
pub mod Once
