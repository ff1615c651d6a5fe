pub mod Visited
pub mod Traced
pub mod Whole
pub mod Messages
pub mod Refusals
pub mod Rows
