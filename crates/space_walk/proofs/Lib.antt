pub mod Walking
pub mod Same
