mod Following
mod Balance
mod Spent
mod Fits
mod Choices
pub mod Final
pub mod Lowered
pub mod Counted
mod Rows
pub mod Listed
