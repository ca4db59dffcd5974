pub mod Formats
pub mod Words
