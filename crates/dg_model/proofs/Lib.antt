pub mod ActionLists
pub mod ClaimSearch
pub mod CopyLaws
pub mod EmptiestLaws
mod FaultRows
mod FindingRows
pub mod FirstSites
mod FormatRows
pub mod FreeLaws
mod HoldsRows
pub mod HomeLaws
mod KindRows
pub mod KnownLaws
pub mod MarkLaws
pub mod MemberLaws
pub mod MissingLaws
pub mod MomentLaws
pub mod NumberLists
mod OpeningRows
pub mod PlacedLaws
mod PlanRows
pub mod PutLaws
mod ReapRows
mod RefillRows
pub mod RegroupLaws
mod RegroupRows
pub mod RereadLaws
pub mod RoomLaws
pub mod RowLaws
pub mod RunLaws
pub mod SealLaws
mod SettledRows
pub mod SiteLists
pub mod SpareLaws
pub mod SpareSteps
pub mod StepLaws
mod StepRows
pub mod SumLaws
pub mod TableLaws
pub mod ThinLaws
pub mod TrimLaws
mod VerdictRows
mod WriteRows
pub mod LineLaws
pub mod Lined
