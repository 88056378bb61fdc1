pub mod Fields
pub mod Telling
pub mod Sizes
pub mod Walks
pub mod Once
