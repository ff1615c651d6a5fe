pub mod Sizes
pub mod Alike
