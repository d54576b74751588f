pub mod ChainLaws
pub mod AddressLaws
pub mod AreaFetches
pub mod SuperLaws
pub mod Sizes
pub mod BlockLaws
pub mod LossLaws
pub mod GapLaws
