pub mod Images
pub mod Listed
pub mod Audits
pub mod Refusals
pub mod Holds
pub mod Holders
pub mod Losses
pub mod Structures
