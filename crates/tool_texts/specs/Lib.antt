pub mod Texts
pub mod Reports
pub mod Statuses
pub mod Ends
