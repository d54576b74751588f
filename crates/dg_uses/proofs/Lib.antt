mod AuditRows
mod AuditedLaws
mod BlankAudits
mod BlankPromises
mod BlankRows
mod BrokenRows
pub mod Chains
mod Checkpoints
pub mod Cores
mod CutLines
mod DrilledLaws
mod Ended
mod FarReads
mod FewCalls
mod Flat
mod Headers
mod Held
pub mod InUse
mod Lines
mod LossRows
mod NextNumbers
mod OneAudit
mod OneFinding
mod OneList
mod OneLostFiles
mod OneMark
mod OneParent
mod OnePlan
mod OneReading
mod OneRebuild
mod OneRefill
mod OneRegroup
mod OneRun
mod OneStep
mod OneVerdict
pub mod OneView
mod OpenedShapes
mod OtherMembers
mod OtherSlots
mod PastReads
mod Promised
mod Quiet
mod QuietRuns
mod Ran
mod ReadOnce
mod RefusedRows
mod Results
mod ResumedAgain
mod ResumedPromises
mod Rows
mod SafeRows
mod SameLines
mod SavedAgain
mod SavedReads
mod Seated
mod Seeing
mod Seen
pub mod StepViews
mod TakenAway
mod ToldLostFiles
pub mod TracedLaws
mod WordRows
