pub mod Text
pub mod Answer
pub mod Complete
pub mod Enough
pub mod Others
