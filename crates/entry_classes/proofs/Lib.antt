pub mod Exact
pub mod Adding
pub mod Turning
pub mod Telling
