pub mod Sizes
pub mod Promise
pub mod AsBefore
