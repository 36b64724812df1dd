pub mod Words
pub mod Sides
pub mod Parts
pub mod Forms
pub mod Question
pub mod Decimal
pub mod Sizes
pub mod One
