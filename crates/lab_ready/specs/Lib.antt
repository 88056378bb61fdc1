pub mod Differs
pub mod Budget
pub mod Answer
pub mod Begun
pub mod Complete
