pub mod Guess
pub mod Firsts
pub mod Final
pub mod Choices
pub mod Shared
pub mod Lowered
