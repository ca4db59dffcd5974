pub mod Tallies
pub mod Workings
pub mod Questions
pub mod Sections
