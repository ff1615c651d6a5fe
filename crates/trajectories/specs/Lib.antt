pub mod Trajectories
pub mod Terms
