pub mod Lawful
pub mod Broken
pub mod Within
pub mod Ruled
pub mod Replacing
pub mod Filled
pub mod Named
