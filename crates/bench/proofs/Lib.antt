pub mod Law
pub mod Adding
pub mod Issuing
pub mod Cells
pub mod Making
pub mod Plain
