pub mod Timeline
pub mod Steps
pub mod Places
pub mod Text
pub mod Summary
pub mod Tallied
pub mod Printed
