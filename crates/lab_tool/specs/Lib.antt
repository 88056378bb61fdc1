pub mod Machines
pub mod Answers
pub mod Complete
pub mod Once
pub mod Worth
