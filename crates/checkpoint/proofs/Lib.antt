pub mod Files
pub mod Told
pub mod Round
pub mod One
