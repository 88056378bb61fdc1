pub mod Over
pub mod Held
pub mod Told
pub mod Runs
