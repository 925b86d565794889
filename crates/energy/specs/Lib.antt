pub mod Reading
pub mod Energies
pub mod Columns
