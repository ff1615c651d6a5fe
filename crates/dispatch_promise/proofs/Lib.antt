pub mod Rearranged
pub mod Own
pub mod Such
pub mod Best
pub mod Promise
pub mod Named
