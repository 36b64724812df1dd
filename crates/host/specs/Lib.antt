pub mod Host
pub mod Told
