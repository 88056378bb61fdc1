pub mod Kept
pub mod Open
