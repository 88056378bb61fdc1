pub mod History
pub mod Ways
pub mod Rows
pub mod Body
