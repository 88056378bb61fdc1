pub mod Members
pub mod Puts
pub mod Plain
pub mod Faults
pub mod Chains
pub mod Refused
