pub mod Counts
pub mod Tied
