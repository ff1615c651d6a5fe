pub mod Charges
pub mod Day
pub mod Here
