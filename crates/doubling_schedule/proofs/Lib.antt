pub mod SettleLemmas
pub mod Settling
