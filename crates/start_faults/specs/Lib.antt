pub mod Found
pub mod Names
pub mod Values
pub mod Touches
pub mod Told
