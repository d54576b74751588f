pub mod ToldLaws
pub mod BlockLaws
pub mod FoundLaws
pub mod OpenedLaws
pub mod SaveLaws
pub mod RunEnds
pub mod InUseLaws
pub mod Readings
mod FoundRows
