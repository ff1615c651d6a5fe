pub mod Groups
pub mod Fields
