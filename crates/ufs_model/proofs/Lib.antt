pub mod GeometryLaws
pub mod RoleLaws
pub mod ReadingLaws
pub mod AreaLaws
mod Rows
mod PathLaws
pub mod AuditLaws
