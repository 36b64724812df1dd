pub mod Lattice
pub mod Lookup
pub mod Sides
pub mod Rule
