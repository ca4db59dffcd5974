pub mod Radix
pub mod Digits
pub mod Laws
pub mod Value
pub mod ErrorFree
