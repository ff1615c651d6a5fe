pub mod Dispatch
pub mod Worked
