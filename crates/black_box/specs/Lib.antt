pub mod Schedule
pub mod Outcomes
pub mod Bound
pub mod Lines
pub mod Files
pub mod Audits
pub mod Computed
