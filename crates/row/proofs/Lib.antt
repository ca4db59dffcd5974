pub mod Cells
pub mod Orders
pub mod Trying
pub mod Writing
pub mod Renewal
