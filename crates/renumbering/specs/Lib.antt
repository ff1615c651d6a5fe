pub mod Permute
pub mod Renumbered
pub mod Alike
pub mod Message
pub mod Promise
