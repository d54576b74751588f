pub mod Standing
pub mod Used
