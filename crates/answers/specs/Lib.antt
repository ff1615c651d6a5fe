pub mod Answers
pub mod Stream
pub mod Room
pub mod Inspected
pub mod Whole
pub mod Steps
