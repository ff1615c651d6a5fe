pub mod Stored
pub mod Pens
pub mod Runs
