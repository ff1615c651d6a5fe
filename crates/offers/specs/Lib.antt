pub mod Copied
pub mod Merging
pub mod Merit
pub mod Order
pub mod Same
pub mod Sorting
