pub mod Laws
pub mod Order
pub mod Outcome
pub mod Magic
pub mod Numbers
pub mod Same
