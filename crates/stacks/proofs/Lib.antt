pub mod Messages
pub mod Turns
pub mod Left
pub mod Promise
pub mod Going
pub mod Judges
