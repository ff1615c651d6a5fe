pub mod Groups
pub mod Tie
pub mod Whole
