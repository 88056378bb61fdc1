pub mod Telling
pub mod Between
