pub mod Near
pub mod Sleeper
pub mod Reached
pub mod Twice
pub mod Many
pub mod Lowered
pub mod ManyWorth
