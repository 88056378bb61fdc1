pub mod Lists
pub mod Forms
pub mod Tables
pub mod Validity
pub mod Kept
pub mod Owned
pub mod Only
