pub mod Alike
pub mod Named
pub mod Walking
pub mod EndLemmas
pub mod OneTimeline
