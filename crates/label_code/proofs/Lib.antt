pub mod Upto
pub mod Leads
pub mod Ticks
mod OneRun
pub mod Alike
