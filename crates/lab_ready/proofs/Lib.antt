pub mod Stops
pub mod Pieces
pub mod Trying
pub mod BegunLemmas
pub mod ReadyLemmas
