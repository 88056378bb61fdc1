pub mod Reporting
pub mod Once
