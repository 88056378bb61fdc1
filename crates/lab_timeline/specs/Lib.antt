pub mod Timed
pub mod Written
pub mod Once
pub mod Alike
