pub mod Near
pub mod Accepted
pub mod Answers
pub mod RadixRules
pub mod Formats
pub mod Mains
pub mod Bytes
