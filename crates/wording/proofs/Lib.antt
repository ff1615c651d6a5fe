pub mod Digits
pub mod Writes
pub mod Spelling
pub mod Lines
