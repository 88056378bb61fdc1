pub mod Worth
