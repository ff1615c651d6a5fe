pub mod Cells
pub mod States
pub mod Rests
pub mod Blocks
pub mod Choices
pub mod Here
