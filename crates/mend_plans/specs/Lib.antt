pub mod Tries
pub mod Broken
