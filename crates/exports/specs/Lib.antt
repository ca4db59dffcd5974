pub mod Operations
pub mod Reports
pub mod Cards
