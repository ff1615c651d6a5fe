pub mod Mending
pub mod Ranks
pub mod Least
pub mod Mendings
