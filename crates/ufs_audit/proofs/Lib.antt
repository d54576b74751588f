pub mod ListedLaws
pub mod AuditLaws
pub mod HoldLaws
pub mod HolderLaws
pub mod LossLaws
