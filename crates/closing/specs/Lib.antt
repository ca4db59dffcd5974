pub mod Operations
pub mod Words
pub mod Closings
