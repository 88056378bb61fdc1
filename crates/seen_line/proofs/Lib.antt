pub mod Chars
pub mod Variables
pub mod Apart
pub mod Fields
