pub mod Number
pub mod Nine
pub mod Joined
