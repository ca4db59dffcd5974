pub mod Tallies
pub mod Questions
pub mod Checks
pub mod Cards
