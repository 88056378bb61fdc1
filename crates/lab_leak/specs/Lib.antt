pub mod Classes
pub mod Text
pub mod Answer
pub mod Complete
pub mod Ordered
pub mod Views
