pub mod Tied
pub mod Fleet
