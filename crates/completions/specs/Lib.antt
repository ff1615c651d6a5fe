pub mod Windows
pub mod Whole
