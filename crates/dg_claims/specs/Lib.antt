pub mod Kept
pub mod Marks
pub mod Places
pub mod Runs
pub mod Scans
pub mod Tables
pub mod There
pub mod ThereLaws
