pub mod Operations
pub mod Reading
pub mod Answers
