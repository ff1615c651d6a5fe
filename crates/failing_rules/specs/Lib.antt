pub mod Parts
pub mod Day
