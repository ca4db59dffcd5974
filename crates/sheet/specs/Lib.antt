pub mod Layout
pub mod Contents
pub mod Faults
pub mod Reading
