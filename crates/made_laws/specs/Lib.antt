pub mod Words
pub mod MadeWords
pub mod MadeStarts
