pub mod Reasons
pub mod Refuting
pub mod Faulty
pub mod Answers
pub mod Explained
pub mod Names
pub mod Origins
pub mod Starts
