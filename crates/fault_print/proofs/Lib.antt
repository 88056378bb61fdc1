pub mod Lines
pub mod NameSteps
pub mod Told
pub mod OneReach
pub mod OneTold
