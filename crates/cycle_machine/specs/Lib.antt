pub mod Seen
pub mod Took
pub mod Turned
pub mod Reached
pub mod Rest
pub mod Stages
