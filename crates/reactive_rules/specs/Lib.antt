pub mod Rules
pub mod Tie
