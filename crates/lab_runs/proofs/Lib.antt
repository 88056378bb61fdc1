pub mod TextLemmas
pub mod NameLemmas
pub mod PreparedLemmas
pub mod NamedChains
pub mod ShownLemmas
pub mod EndLemmas
