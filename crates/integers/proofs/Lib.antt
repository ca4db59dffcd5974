pub mod Ring
pub mod Integers
pub mod Naturals
pub mod Tests
