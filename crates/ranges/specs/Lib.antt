pub mod Ranges
pub mod Kept
pub mod Plain
pub mod Floorless
pub mod Barless
