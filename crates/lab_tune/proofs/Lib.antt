pub mod Answering
pub mod Choices
pub mod Lining
pub mod Named
pub mod Single
pub mod Telling
