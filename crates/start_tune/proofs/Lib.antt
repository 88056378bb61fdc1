pub mod Alike
pub mod Walking
pub mod Single
pub mod Enough
