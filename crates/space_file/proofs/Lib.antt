pub mod Ascii
pub mod Lists
pub mod Filling
pub mod Reading
pub mod OneSpace
