-- Why blocks are needed to read a file.
pub mod Needed
-- What a settled array promises of the files of its volume.
pub mod Promises
-- What all states keep.
pub mod Steady
-- A file that is read in the middle of a run.
pub mod Chains
-- A file that is read in a run from any state, and between a `settle` and the next write.
pub mod Readings
-- Volumes of which some blocks were cut.
pub mod Uncut
-- Room for a plan.
pub mod Rooms
