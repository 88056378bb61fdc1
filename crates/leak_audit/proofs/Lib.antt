pub mod Tallying
pub mod Running
pub mod Marking
pub mod Classing
pub mod Measuring
pub mod Split
pub mod Agreeing
pub mod Surveying
pub mod OneReason
pub mod Differing
pub mod Reporting
pub mod Once
mod SameTouches
