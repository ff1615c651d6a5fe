pub mod Fits
pub mod OneField
pub mod Promise
