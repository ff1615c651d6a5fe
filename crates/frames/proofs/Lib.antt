pub mod Splits
pub mod Lengths
