pub mod Ranks
pub mod Least
pub mod Mendings
