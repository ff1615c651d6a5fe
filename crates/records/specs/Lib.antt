pub mod Views
pub mod Viewed
pub mod Ranged
pub mod Stored
pub mod Kept
