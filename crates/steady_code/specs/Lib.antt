pub mod Steady
pub mod Costing
pub mod Timed
pub mod Plain
pub mod Tail
pub mod View
pub mod Judged
