pub mod Answers
pub mod Audits
pub mod Calls
pub mod Ends
pub mod Images
pub mod Replays
pub mod Traces
pub mod Volumes
