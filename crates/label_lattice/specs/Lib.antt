pub mod Lattice
pub mod Order
pub mod Names
pub mod Padded
pub mod Kept
pub mod Chains
pub mod Tables
pub mod Room
