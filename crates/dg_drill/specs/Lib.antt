-- The volume of a drill, and the array that it stands on.
pub mod Volumes
-- What a drill prints.
pub mod Reports
-- What became of reading files, as it is counted.
pub mod Outcomes
-- What a comparer of a file was handed.
pub mod Comparisons
-- What a drill met outside.
pub mod Calls
-- What a drill does, and how it ends.
pub mod Drills
-- Its volume beside the states of the model.
pub mod Chains
-- What a drill loses.
pub mod Losses
