pub mod Promise
pub mod Each
pub mod Cases
pub mod Plans
pub mod SwappedDay
