pub mod Reading
pub mod Telling
pub mod Agreeing
pub mod Scoring
pub mod Headings
