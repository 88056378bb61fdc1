pub mod Lines
pub mod Stage
