pub mod Needs
