pub mod Apart
pub mod Estimates
pub mod Begun
pub mod Noted
pub mod Listed
