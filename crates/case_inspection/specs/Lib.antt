pub mod Inspection
pub mod Steps
