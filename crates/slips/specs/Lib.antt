pub mod Book
pub mod Workings
