pub mod Body
pub mod Ends
