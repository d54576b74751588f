pub mod Calls
pub mod Ends
pub mod OpeningLaws
pub mod PathReplies
pub mod Saved
pub mod Serves
pub mod Texts
pub mod Unopened
