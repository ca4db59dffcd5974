pub mod Outcomes
pub mod Entries
pub mod Told
pub mod Lines
pub mod Cells
pub mod Works
