pub mod Ascent
pub mod Lists
pub mod Cell
pub mod Bounced
pub mod Writing
pub mod Outcome
pub mod Twice
pub mod One
