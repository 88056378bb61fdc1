pub mod Worked
pub mod Kept
pub mod Runs
