pub mod Failures
pub mod Reading
