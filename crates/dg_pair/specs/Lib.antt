pub mod Boundaries
pub mod Calls
pub mod Cases
pub mod Kept
pub mod Members
