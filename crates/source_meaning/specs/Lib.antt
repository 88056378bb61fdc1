pub mod Source
pub mod InRange
pub mod Frames
pub mod Walked
pub mod Same
