pub mod Ranges
pub mod Files
