pub mod Marked
pub mod Words
pub mod Traps
pub mod Hints
pub mod Tokens
pub mod Names
pub mod Faults
