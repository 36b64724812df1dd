pub mod Nan
pub mod ByKind
pub mod Joined
pub mod RoundTrips
pub mod Exact
pub mod Nine
