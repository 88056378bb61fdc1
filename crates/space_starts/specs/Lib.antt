pub mod Space
pub mod Chooser
