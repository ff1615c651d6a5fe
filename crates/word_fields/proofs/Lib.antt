pub mod Ranges
pub mod Words
