pub mod Radix
pub mod Fields
pub mod Writes
pub mod Finite
