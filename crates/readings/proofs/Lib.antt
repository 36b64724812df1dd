pub mod Fills
pub mod Answered
pub mod One
