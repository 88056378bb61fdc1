pub mod Images
pub mod Few
pub mod OneSeen
pub mod LineLemmas
pub mod SeenLemmas
