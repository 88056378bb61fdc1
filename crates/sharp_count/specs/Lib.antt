pub mod Count
pub mod Levels
pub mod Lists
pub mod Shared
pub mod Shares
pub mod Ways
