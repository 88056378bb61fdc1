pub mod Cut
pub mod Ended
