pub mod EndLabel
pub mod Ending
pub mod Bare
pub mod Enough
pub mod Others
pub mod Putting
pub mod Answering
pub mod Single
