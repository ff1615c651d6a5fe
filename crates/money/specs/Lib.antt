pub mod Bounds
pub mod Entries
pub mod Worth
pub mod Costs
pub mod Unbroken
pub mod Ruled
pub mod Terms
pub mod Here
