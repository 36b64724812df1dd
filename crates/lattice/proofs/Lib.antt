pub mod Tables
pub mod Lookups
pub mod Frames
pub mod Results
