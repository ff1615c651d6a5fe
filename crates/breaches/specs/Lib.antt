pub mod First
pub mod Bits
pub mod Parts
pub mod Day
