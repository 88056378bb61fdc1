pub mod Tables
pub mod Versions
pub mod Values
pub mod Touches
pub mod Edits
pub mod Starts
pub mod Shared
