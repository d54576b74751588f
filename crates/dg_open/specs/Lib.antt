pub mod Founds
pub mod Reopenings
pub mod Seen
