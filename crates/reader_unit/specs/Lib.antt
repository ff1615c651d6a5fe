pub mod Reads
pub mod Few
