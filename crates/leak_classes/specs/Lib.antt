pub mod Classes
pub mod Walk
pub mod Views
