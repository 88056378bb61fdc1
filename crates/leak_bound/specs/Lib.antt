pub mod Records
pub mod Relevant
pub mod Digits
pub mod Rising
pub mod Sound
pub mod Source
pub mod Over
