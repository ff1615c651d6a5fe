pub mod Decoded
pub mod Cases
pub mod Plans
pub mod Owned
