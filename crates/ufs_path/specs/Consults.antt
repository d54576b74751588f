-- Which blocks a reader of a volume fetched, and why it read nothing. The words are this project's own.
use Rattle.std.specs.Prelude.{◌≡◌, ℕ, Result, Ok, Err}
use Rattle.dg_io.specs.declared.views.View.{Ghosts}
use Rattle.ufs_model.specs.Blocks.{Volume, Reading}
use Rattle.ufs_pointer.specs.Fetches.{FetchesOnly, IsNeeded, LosesOne}
use Rattle.ufs_path.specs.declared.faults.LookFault.{LookFault}
use Rattle.ufs_path.specs.declared.faults.LookFault.TheVariants.{NotFound as FaultNotFound, NotDirectory as FaultNotDirectory, Bad as FaultBad, Unavailable as FaultUnavailable}
use Rattle.ufs_path.specs.declared.faults.CatAnswer.{CatAnswer}
use Rattle.ufs_path.specs.declared.faults.CatAnswer.TheVariants.{Given, NotFound, NotDirectory, Bad, Unavailable, NotRegular, Cut, SinkFault}
use Rattle.ufs_path.specs.declared.files.Handed.{Handed}
use Rattle.ufs_path.specs.declared.files.Handed.TheVariants.{All as HandedAll, Unread as HandedUnread, Failed as HandedFailed}
use Rattle.ufs_path.specs.declared.walks.Walked.{Walked}
use Rattle.ufs_path.specs.declared.walks.Walked.TheVariants.{All as WalkedAll, Unread as WalkedUnread, Failed as WalkedFailed}

-- ---- answers for want of a block

-- a fault says that a block is gone
abbrev pub IsUnavailable : LookFault → Type 0
IsUnavailable FaultUnavailable = Unit {0}
IsUnavailable FaultNotFound = ⊥
IsUnavailable FaultNotDirectory = ⊥
IsUnavailable (FaultBad bad) = ⊥

-- the same of what a reader answers, a walk, and `cat` and `ls`
abbrev pub IsUnread : {T : Type 0} → Result T LookFault → Type 0
IsUnread (Ok answer) = ⊥
IsUnread (Err fault) = IsUnavailable fault

abbrev pub IsUnreadPart : Handed → Type 0
IsUnreadPart (HandedAll n) = ⊥
IsUnreadPart (HandedUnread fault) = IsUnavailable fault
IsUnreadPart HandedFailed = ⊥

abbrev pub IsUnreadWalk : Walked → Type 0
IsUnreadWalk (WalkedAll n) = ⊥
IsUnreadWalk (WalkedUnread n fault) = IsUnavailable fault
IsUnreadWalk WalkedFailed = ⊥

abbrev pub IsUnanswered : CatAnswer → Type 0
IsUnanswered (Given n) = ⊥
IsUnanswered NotFound = ⊥
IsUnanswered NotDirectory = ⊥
IsUnanswered (Bad bad) = ⊥
IsUnanswered Unavailable = Unit {0}
IsUnanswered NotRegular = ⊥
IsUnanswered (Cut n) = ⊥
IsUnanswered SinkFault = ⊥

-- ---- counts of a receiver's faults

-- the count is that before, unless the receiver failed
abbrev pub StaysUnlessFailed : CatAnswer → ℕ → ℕ → Type 0
StaysUnlessFailed (Given n) before now = now ≡ before
StaysUnlessFailed NotFound before now = now ≡ before
StaysUnlessFailed NotDirectory before now = now ≡ before
StaysUnlessFailed (Bad bad) before now = now ≡ before
StaysUnlessFailed Unavailable before now = now ≡ before
StaysUnlessFailed NotRegular before now = now ≡ before
StaysUnlessFailed (Cut n) before now = now ≡ before
StaysUnlessFailed SinkFault before now = Unit {0}

abbrev pub StaysAtPart : Handed → ℕ → ℕ → Type 0
StaysAtPart (HandedAll n) before now = now ≡ before
StaysAtPart (HandedUnread fault) before now = now ≡ before
StaysAtPart HandedFailed before now = Unit {0}

abbrev pub StaysAtWalk : Walked → ℕ → ℕ → Type 0
StaysAtWalk (WalkedAll n) before now = now ≡ before
StaysAtWalk (WalkedUnread n fault) before now = now ≡ before
StaysAtWalk WalkedFailed before now = Unit {0}

-- ---- what was consulted

-- Only blocks of a kind were fetched; and where the reader says that a block was gone, one of that kind is. This is said of some of
-- the volumes that the view stands for.
pub record ConsultsKind {S : Type 0} (view : Ghosts S) (old new : S) (stands : Volume → Type 0) (kind : Volume → ℕ → Type 0) (lost : Type 0) : Type 0 where
  pub fetched : FetchesOnly view.fetched stands (view.tells new) kind old new
  pub cause : lost → LosesOne stands (view.tells new) (view.count old) kind (view.is_gone new)

-- the same of the blocks that are needed for a reading, on each volume that the view stood for
abbrev pub Consults : {S A : Type 0} → Ghosts S → S → S → Reading A → Type 0 → Type 0
Consults view old new reading lost = ConsultsKind view old new (view.stands_for old) (IsNeeded reading) lost

-- each block that is needed for what is left to read is needed for the whole
pub record Leads {A : Type 0} (stands : Volume → Type 0) (tells : Type 0) (whole rest : Reading A) : Type 0 where
  pub go : tells → (v : Volume) → stands v → (b : ℕ) → IsNeeded rest v b → IsNeeded whole v b
