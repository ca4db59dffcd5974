pub mod Refusals
pub mod Answers
pub mod Asking
pub mod Benches
