pub mod Steps
pub mod Steady
pub mod Passes
