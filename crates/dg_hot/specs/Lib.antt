pub mod Copied
pub mod Spreads
