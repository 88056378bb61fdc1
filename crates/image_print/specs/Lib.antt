pub mod ImageText
pub mod Named
