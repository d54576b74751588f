-- The files of a drill.
pub mod Items
-- The volume of a drill.
pub mod Volumes
