pub mod Meaning
pub mod Operations
pub mod Rules
pub mod Radix
pub mod Causes
pub mod Setting
