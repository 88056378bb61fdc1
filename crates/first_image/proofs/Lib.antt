pub mod Tuning
pub mod Placing
pub mod Alike
