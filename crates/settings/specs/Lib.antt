pub mod Tests
pub mod Refusals
pub mod Refused
pub mod Outcome
