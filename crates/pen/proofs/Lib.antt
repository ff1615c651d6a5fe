pub mod Bytes
pub mod Stores
pub mod Words
