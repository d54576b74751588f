-- What a save leaves on members, and what of it is found.
pub mod Saved
-- What an opening takes of members on which no call fails.
pub mod Taken
-- What an array is that is opened from a save.
pub mod Opened
-- Runs that end with a save, and runs on what it left.
pub mod SavedRuns
