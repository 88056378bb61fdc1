pub mod Runs
pub mod CanRun
pub mod Labels
pub mod Shown
pub mod ShownViews
