pub mod Guess
pub mod Firsts
pub mod Sharp
pub mod Shared
pub mod End
pub mod Lowered
