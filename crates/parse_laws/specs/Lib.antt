pub mod Spelled
pub mod ReadBack
pub mod Grammar
pub mod TextWords
