pub mod Fits
pub mod Advances
pub mod Steps
