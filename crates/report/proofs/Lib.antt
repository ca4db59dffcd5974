pub mod Workings
pub mod Fitting
pub mod Writing
pub mod Putting
pub mod Slips
pub mod Loop
pub mod TheLaw
pub mod Cut
