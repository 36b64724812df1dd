pub mod Grid
pub mod Writes
pub mod Finite
