pub mod Shown
pub mod Agreeing
