pub mod Layout
pub mod Code
pub mod Depth
pub mod Measured
pub mod Emitted
pub mod Lowered
pub mod Follows
