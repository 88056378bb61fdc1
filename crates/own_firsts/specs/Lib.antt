pub mod Predicted
pub mod Ways
pub mod Own
pub mod Count
pub mod Rows
