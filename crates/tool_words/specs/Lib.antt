pub mod WordsAsked
pub mod WordsForms
pub mod WordsRun
pub mod WordsValues
