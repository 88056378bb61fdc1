pub mod Costs
pub mod Machine
pub mod Run
pub mod Shaped
pub mod Visible
pub mod OneRun
pub mod Alike
