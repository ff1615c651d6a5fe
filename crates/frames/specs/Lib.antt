pub mod Frames
pub mod Splits
