-- The bounds of a chain of indirect blocks.
pub mod Chains
-- What stays of a volume that changes elsewhere.
pub mod Frames
