pub mod Prices
pub mod Blind
pub mod Back
pub mod CopySplice
pub mod Promise
