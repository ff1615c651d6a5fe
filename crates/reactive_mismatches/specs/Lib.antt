pub mod Settled
pub mod Sides
