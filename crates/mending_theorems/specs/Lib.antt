pub mod Replaced
pub mod Held
pub mod Clean
pub mod Bounds
pub mod Cells
pub mod Where
pub mod Answer
