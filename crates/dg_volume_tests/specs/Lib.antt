pub mod Grouped
pub mod Ready
pub mod Rooms
