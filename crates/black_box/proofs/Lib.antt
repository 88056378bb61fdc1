pub mod UnderWay
pub mod Encoded
pub mod LineLemmas
pub mod FileLemmas
pub mod Gathered
pub mod FactsMet
pub mod OneSchedule
pub mod EpochCount
