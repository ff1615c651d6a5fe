pub mod Items
pub mod Naturals
