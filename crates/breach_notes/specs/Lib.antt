pub mod Bits
pub mod Windows
pub mod Link
pub mod Day
