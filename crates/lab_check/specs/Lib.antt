pub mod Faults
pub mod Reasons
pub mod Answers
pub mod Found
