pub mod Skips
pub mod Counts
pub mod Whole
