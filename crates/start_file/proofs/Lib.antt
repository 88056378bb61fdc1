pub mod TableLemmas
pub mod Names
pub mod Written
pub mod Filling
pub mod FilledRuns
pub mod Listed
pub mod ForProgram
pub mod OneAnswer
