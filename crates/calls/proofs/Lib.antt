pub mod Leaving
pub mod Shown
