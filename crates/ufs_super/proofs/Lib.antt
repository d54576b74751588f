pub mod BelowLaws
pub mod PlaceLaws
pub mod SuperLaws
