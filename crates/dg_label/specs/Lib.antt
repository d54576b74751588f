pub mod Labels
pub mod Lefts
pub mod LineLaws
pub mod Lines
pub mod Pages
pub mod Passes
pub mod Saves
pub mod Seals
