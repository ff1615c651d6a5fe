pub mod Calm
pub mod Readers
pub mod OwnBytes
pub mod Figures
pub mod Flat
pub mod Begun
pub mod Promise
