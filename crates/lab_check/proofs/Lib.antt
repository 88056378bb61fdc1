pub mod FoundLemmas
pub mod OneFound
