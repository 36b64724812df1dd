pub mod Cellwise
pub mod Stepwise
pub mod Snapshots
pub mod Settling
pub mod One
pub mod Tied
pub mod Split
pub mod Ruined
