-- The disks of the rack of a volume: what calls on one of them answer, and what they leave. Boundaries go by their numbers in the first line.
use Rattle.std.specs.Prelude.{◌≡◌, ◌⊎◌, ◌+◌, ◌*◌, ◌<◌, ℕ, Bool, true, false, length, Option, None}
use Rattle.dg_io.specs.DiskAnswers.{DropsDisk, LeavesMembers, MendsDisk, OneDisk}
use Rattle.dg_io.specs.declared.disks.DropAnswer.{DropAnswer}
use Rattle.dg_io.specs.declared.disks.DropAnswer.TheVariants.{Already as RackAlready, Dropped as RackDropped, Plain as RackPlain}
use Rattle.dg_io.specs.declared.disks.MendAnswer.{MendAnswer}
use Rattle.dg_io.specs.declared.disks.MendAnswer.TheVariants.{Failed as RackFailed, Lost as RackLost, Mended as RackMended, NotOut as RackNotOut, Plain as RackPlainMend}
use Rattle.dg_io.specs.declared.outside.Rack.{Ghosts}
use Rattle.dg_model.specs.Lives.{place_in}
use Rattle.dg_model.specs.Members.{IsStruck, is_lost}
use Rattle.dg_model.specs.declared.members.MemberState.{MemberState}
use Rattle.dg_model.specs.declared.members.MemberState.TheVariants.{Out}
use Rattle.dg_model.specs.declared.replies.Reply.{Reply}
use Rattle.dg_model.specs.declared.replies.Reply.TheVariants.{Already as AlreadyReply, Done, Failed as FailedReply, Lost as LostReply, Mended as MendedReply, NotOut as NotOutReply, NotParity, Range as RangeReply}
use Rattle.dg_store.specs.Stores.{IsSound, KeepsBlocks}
use Rattle.dg_store.specs.Stores as stores
use Rattle.dg_store.specs.declared.store.Store.{Store}
use Rattle.dg_volume.specs.Volumes.{live_of, members_of, rack_of}
use Rattle.dg_volume.specs.declared.disks.DropDiskAnswer.{DropDiskAnswer}
use Rattle.dg_volume.specs.declared.disks.DropDiskAnswer.TheVariants.{Already, Dropped, Plain, Range}
use Rattle.dg_volume.specs.declared.disks.MendDiskAnswer.{MendDiskAnswer}
use Rattle.dg_volume.specs.declared.disks.MendDiskAnswer.TheVariants.{Failed, Lost, Mended, NotOut, Plain as PlainMend, Range as RangeMend}
use Rattle.dg_volume.specs.declared.volumes.Volume.{Volume}

-- ---- replies

abbrev pub drop_disk_reply : DropDiskAnswer → Reply
drop_disk_reply Plain = NotParity
drop_disk_reply Range = RangeReply
drop_disk_reply Already = AlreadyReply
drop_disk_reply Dropped = Done

-- of a disk of boundary s
abbrev pub mend_disk_reply : ℕ → MendDiskAnswer → Reply
mend_disk_reply s PlainMend = NotParity
mend_disk_reply s RangeMend = RangeReply
mend_disk_reply s Lost = LostReply s
mend_disk_reply s NotOut = NotOutReply
mend_disk_reply s Failed = FailedReply
mend_disk_reply s (Mended stripes) = MendedReply stripes

-- ---- groups of disks

-- no boundary has a second member
abbrev pub AreSingle : {S R : Type 0} → Volume S R → Type 0
AreSingle volume = (x : ℕ) → members_of volume (2 * x + 1) ≡ Out

-- there is disk j of boundary s, where groups have n disks
pub record HasDisk {S R : Type 0} (n s j : ℕ) (volume : Volume S R) : Type 0 where
  pub boundary : s < volume.in_use.boundaries
  pub disk : j < n

-- the place of boundary s among those in use, or the place behind the last
abbrev pub place_of : {S R : Type 0} → Volume S R → ℕ → ℕ
place_of volume s = place_in (live_of volume) s

abbrev pub IsInUse : {S R : Type 0} → Volume S R → ℕ → Type 0
IsInUse volume s = place_of volume s < length (live_of volume)

-- boundary s is lost, or isn't in use
abbrev pub is_lost_in : {S R : Type 0} → Volume S R → ℕ → Bool
is_lost_in volume s = is_lost (members_of volume) (place_of volume s)

-- ---- what the calls leave

-- the first member of boundary s fails, or each member does what it did
abbrev pub FailsWhere : Bool → ℕ → (ℕ → MemberState) → (ℕ → MemberState) → Type 0
FailsWhere true s old new = IsStruck (2 * s) old new
FailsWhere false s old new = new ≡ old

-- whether two disks of the group are out, by the rack's answer
abbrev pub drop_loses : DropAnswer → Bool
drop_loses RackPlain = false
drop_loses RackAlready = false
drop_loses (RackDropped lost) = lost

abbrev pub mend_loses : MendAnswer → Bool
mend_loses RackPlainMend = false
mend_loses RackLost = true
mend_loses RackNotOut = false
mend_loses RackFailed = false
mend_loses (RackMended stripes) = false

-- What a call on disk j of the boundary at place s leaves of an array, whether the member fails by it or not. `width` and `groups` are how many
-- disks a group of the rack has, or none, and how many groups it has.
pub record HandlesDisk {R : Type 0} (rack : Ghosts R) (width : R → Option ℕ) (groups : R → ℕ) (s j : ℕ) (fails : Bool) (old new : Store R) : Type 0 where
  pub table : stores.table_of new ≡ stores.table_of old
  pub members : FailsWhere fails s (stores.members_of old) (stores.members_of new)
  pub disks : OneDisk s j (rack.disks (stores.rack_of old)) (rack.disks (stores.rack_of new))
  pub leaves : LeavesMembers rack (stores.rack_of old) (stores.rack_of new)
  pub width_is : width (stores.rack_of new) ≡ width (stores.rack_of old)
  pub groups_is : groups (stores.rack_of new) ≡ groups (stores.rack_of old)
  pub sound : IsSound rack new
  pub blocks : KeepsBlocks rack old new

-- the same of a volume and its boundary s; nothing is done to one over a plain rack
pub record LeavesDisks {S R : Type 0} (rack : Ghosts R) (width : R → Option ℕ) (groups : R → ℕ) (s j : ℕ) (old new : Volume S R) : Type 0 where
  pub fails : Bool
  pub array : HandlesDisk rack width groups (place_of old s) j fails old.store new.store
  pub idle : width (rack_of old) ≡ None → new ≡ old

-- ---- the answers

-- The rack answered so to the drop of disk j of boundary s, which is in use. Where two disks of the group are out then, its member fails.
pub record DropsAt {S R : Type 0} (rack : Ghosts R) (n s j : ℕ) (old new : Volume S R) (answer : DropAnswer) : Type 0 where
  pub disk : HasDisk n s j old
  pub in_use : IsInUse old s
  pub drops : DropsDisk n (place_of old s) j (rack.disks (rack_of old)) (rack.disks (rack_of new)) answer
  pub members : FailsWhere (drop_loses answer) (place_of old s) (members_of old) (members_of new)

-- The same of a mending, of a boundary that isn't lost. Where the disk wasn't out, the disks (`mends.idle`) and the members are as they were.
pub record MendsAt {S R : Type 0} (rack : Ghosts R) (n s j : ℕ) (old new : Volume S R) (answer : MendAnswer) : Type 0 where
  pub disk : HasDisk n s j old
  pub live : is_lost_in old s ≡ false
  pub mends : MendsDisk n (place_of old s) j (rack.disks (rack_of old)) (rack.disks (rack_of new)) answer
  pub members : FailsWhere (mend_loses answer) (place_of old s) (members_of old) (members_of new)

-- By each answer to the drop of disk j of boundary s, where groups have n disks. Of a boundary that isn't in use no disk is dropped.
abbrev pub AnswersDrop : {S R : Type 0} → Ghosts R → ℕ → ℕ → ℕ → Volume S R → Volume S R → DropDiskAnswer → Type 0
AnswersDrop rack n s j old new Plain = ⊥
AnswersDrop rack n s j old new Range = (HasDisk n s j old → ⊥) × (new ≡ old)
AnswersDrop rack n s j old new Already = (HasDisk n s j old × (IsInUse old s → ⊥) × (new ≡ old)) ⊎ DropsAt rack n s j old new RackAlready
AnswersDrop rack n s j old new Dropped = (lost : Bool) × DropsAt rack n s j old new (RackDropped lost)

-- the same of a mending; of a boundary that was lost no disk is mended
abbrev pub AnswersMend : {S R : Type 0} → Ghosts R → ℕ → ℕ → ℕ → Volume S R → Volume S R → MendDiskAnswer → Type 0
AnswersMend rack n s j old new PlainMend = ⊥
AnswersMend rack n s j old new RangeMend = (HasDisk n s j old → ⊥) × (new ≡ old)
AnswersMend rack n s j old new Lost = (HasDisk n s j old × (is_lost_in old s ≡ true) × (new ≡ old)) ⊎ MendsAt rack n s j old new RackLost
AnswersMend rack n s j old new NotOut = MendsAt rack n s j old new RackNotOut
AnswersMend rack n s j old new Failed = MendsAt rack n s j old new RackFailed
AnswersMend rack n s j old new (Mended stripes) = MendsAt rack n s j old new (RackMended stripes)
