pub mod Names
pub mod Visited
