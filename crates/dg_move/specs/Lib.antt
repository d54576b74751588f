pub mod Answers
pub mod Cursors
pub mod Spares
pub mod Stops
pub mod Stores
pub mod Turns
