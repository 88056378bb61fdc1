pub mod Tags
pub mod Costs
pub mod Two
pub mod Clear
pub mod Backs
pub mod Scan
pub mod Back
pub mod Quiet
