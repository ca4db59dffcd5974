pub mod Forms
pub mod Patterns
pub mod Numbers
pub mod Ties
pub mod Splits
pub mod Precisions
