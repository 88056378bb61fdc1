pub mod ReasonLemmas
pub mod FaultLemmas
pub mod SpelledLemmas
pub mod OriginLemmas
pub mod OneReason
pub mod OneOrigins
pub mod StartsLemmas
pub mod NameLemmas
