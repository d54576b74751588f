pub mod Reads
pub mod Built
pub mod Inodes
pub mod Addresses
pub mod Claims
pub mod Lines
pub mod Rooms
pub mod Owners
