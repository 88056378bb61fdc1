pub mod Owners
pub mod OneJudged
pub mod OneAnswer
pub mod Worthy
pub mod Pieces
pub mod Blames
pub mod Nos
pub mod Stages
