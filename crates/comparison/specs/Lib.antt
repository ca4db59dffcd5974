pub mod Words
pub mod Scores
