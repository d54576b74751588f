pub mod Checks
pub mod Decodes
pub mod Labels
pub mod Laws
pub mod Parts
pub mod States
