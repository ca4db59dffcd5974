pub mod Splitting
pub mod Places
