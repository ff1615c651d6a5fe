pub mod Energies
