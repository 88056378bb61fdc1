pub mod Lawful
pub mod Held
pub mod Told
pub mod Runs
