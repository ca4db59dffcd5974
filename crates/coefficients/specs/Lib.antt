pub mod Exact
pub mod Row
pub mod Closing
pub mod Calls
pub mod Book
pub mod Law
