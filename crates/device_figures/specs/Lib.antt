pub mod Parts
pub mod Naturals
