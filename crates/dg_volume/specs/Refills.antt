-- The replies that the answers of replacements and refills stand for, and what is reaped.
use Rattle.std.specs.Prelude.{◌≡◌, ◌≢◌, ◌⊎◌, ◌+◌, ◌*◌, ℕ, Bool, true, false, List, length, None, Option, Result, Ok, Err, IfSome, IsSome}
use Rattle.std.specs.Bool.{Decides}
use Rattle.dg_infer.specs.Meanings.{KeptInference}
use Rattle.dg_infer.specs.Meanings as inferences
use Rattle.dg_infer.specs.Wants.{IsWantBy}
use Rattle.dg_io.specs.Makes.{Makes}
use Rattle.dg_io.specs.declared.outside.Rack.{Ghosts}
use Rattle.dg_label.specs.Labels.{NotesLong}
use Rattle.dg_label.specs.Seals.{KeepsArray}
use Rattle.dg_label.specs.declared.labels.KeptLabel.{KeptLabel}
use Rattle.dg_model.specs.Blocks.{block_in, zeros}
use Rattle.dg_model.specs.Lives.{place_in}
use Rattle.dg_model.specs.Marks.{IsDead, is_marked}
use Rattle.dg_model.specs.Members.{IsRefilled, is_lost}
use Rattle.dg_model.specs.States.{has_lost}
use Rattle.dg_model.specs.Tables.{Table}
use Rattle.dg_model.specs.declared.shapes.Shape.{Shape}
use Rattle.dg_model.specs.declared.members.MemberState.{MemberState}
use Rattle.dg_model.specs.declared.phases.Phase.{Phase}
use Rattle.dg_model.specs.declared.phases.Phase.TheVariants.{Worn}
use Rattle.dg_model.specs.declared.replies.Reply.{Reply}
use Rattle.dg_model.specs.declared.replies.Reply.TheVariants.{Copied as CopiedReply, Done, Failed as FailedReply, Lost as LostReply, NotFilling as NotFillingReply, NotOut as NotOutReply, Range as RangeReply}
use Rattle.dg_model.specs.declared.wants.Want.TheVariants.{Stray}
use Rattle.dg_pair.specs.Kept.{BlanksMember}
use Rattle.dg_pair.specs.declared.boundaries.ReplaceAnswer as members
use Rattle.dg_pair.specs.declared.boundaries.ReplaceAnswer.TheVariants.{Failed as MemberFailed, Lost as MemberLost, NotOut as MemberNotOut, Replaced as MemberReplaced}
use Rattle.dg_rebuild.specs.Answers.{HasNoFilling}
use Rattle.dg_rebuild.specs.declared.rebuilds.RebuildAnswer as refilled
use Rattle.dg_rebuild.specs.declared.rebuilds.RebuildAnswer.TheVariants.{Copied as RefilledCopied, Failed as RefilledFailed, Lost as RefilledLost, NotFilling as RefilledNotFilling}
use Rattle.dg_store.specs.Leaves.{IsCallBelow}
use Rattle.dg_store.specs.Stores.{members_of, shape_of, table_of}
use Rattle.dg_store.specs.declared.store.Store.{Store}
use Rattle.dg_volume.specs.Seals.{Relabels}
use Rattle.dg_volume.specs.Volumes.{StandsFor, Tells, live_of, marks_of, rack_of}
use Rattle.dg_volume.specs.Volumes as volumes
use Rattle.dg_volume.specs.declared.phases.InPhase as phases
use Rattle.dg_volume.specs.declared.refills.RebuildAnswer.{RebuildAnswer}
use Rattle.dg_volume.specs.declared.refills.RebuildAnswer.TheVariants.{Copied, Failed as RebuildFailed, Lost as RebuildLost, NotFilling, Range as RebuildRange}
use Rattle.dg_volume.specs.declared.refills.ReplaceAnswer.{ReplaceAnswer}
use Rattle.dg_volume.specs.declared.refills.ReplaceAnswer.TheVariants.{Failed, Lost, NotOut, Range, Replaced}
use Rattle.dg_volume.specs.declared.volumes.Volume.{Volume}
use Rattle.ufs_frames.specs.Frames.{DifferLoosely, HasWholeIndirects}
use Rattle.ufs_model.specs.Superblocks.{geometry_of}
use Rattle.ufs_model.specs.declared.geometries.Geometry.{Geometry}

-- ---- replies

-- of a member of boundary s
abbrev pub replace_reply : ℕ → ReplaceAnswer → Reply
replace_reply s Replaced = Done
replace_reply s Range = RangeReply
replace_reply s Lost = LostReply s
replace_reply s NotOut = NotOutReply
replace_reply s Failed = FailedReply

-- what is told of a member that was to be made anew
abbrev pub replaced_as : members.ReplaceAnswer → ReplaceAnswer
replaced_as MemberReplaced = Replaced
replaced_as MemberLost = Lost
replaced_as MemberNotOut = NotOut
replaced_as MemberFailed = Failed

abbrev pub rebuild_reply : RebuildAnswer → Reply
rebuild_reply (Copied d l) = CopiedReply d l
rebuild_reply RebuildRange = RangeReply
rebuild_reply (RebuildLost s) = LostReply s
rebuild_reply NotFilling = NotFillingReply
rebuild_reply RebuildFailed = FailedReply

-- the answer about the boundary of this number
abbrev pub rebuilt_at : ℕ → RebuildAnswer → RebuildAnswer
rebuilt_at number (Copied d l) = Copied d l
rebuilt_at number RebuildRange = RebuildRange
rebuilt_at number (RebuildLost place) = RebuildLost number
rebuilt_at number NotFilling = NotFilling
rebuilt_at number RebuildFailed = RebuildFailed

-- what is told of it by what became of the array
abbrev pub told_of : {E : Type 0} → ℕ → Result refilled.RebuildAnswer E → Result RebuildAnswer E
told_of number (Ok (RefilledCopied d l)) = Ok (Copied d l)
told_of number (Ok (RefilledLost place)) = Ok (RebuildLost number)
told_of number (Ok RefilledNotFilling) = Ok NotFilling
told_of number (Ok RefilledFailed) = Ok RebuildFailed
told_of number (Err e) = Err e

-- ---- members

-- the length of a member was noted, where it was made anew
pub record NotesAnew (answer : members.ReplaceAnswer) (member : ℕ) (before after : Option KeptLabel) : Type 0 where
  pub noted : answer ≡ MemberReplaced → NotesLong member before after
  pub unnoted : answer ≢ MemberReplaced → after ≡ before

-- by the answer to a replacement of a member: it was made anew, and of what the rack kept no more than its entry is gone; or nothing was done
abbrev pub EndsReplacement : {R : Type 0} → Ghosts R → ℕ → ReplaceAnswer → R → R → Type 0
EndsReplacement rack member Replaced before now = BlanksMember rack member before now
EndsReplacement rack member Failed before now = BlanksMember rack member before now
EndsReplacement rack member Range before now = now ≡ before
EndsReplacement rack member Lost before now = now ≡ before
EndsReplacement rack member NotOut before now = now ≡ before

-- What a replacement of the member of a side of boundary s leaves of what a rack keeps. Calls that open the seal come first, and read or write alone. The
-- rack knows the member by the place of its boundary among those in use; where that isn't in use, nothing was done.
pub record KeepsReplaced {S R : Type 0} (rack : Ghosts R) (s side : ℕ) (answer : ReplaceAnswer) (old new : Volume S R) : Type 0 where
  pub mid : R
  pub opened : Makes rack (IsCallBelow (volumes.shape_of old).b) (rack_of old) mid
  pub ends : EndsReplacement rack (2 * place_in (live_of old) s + side) answer mid (rack_of new)
  pub unused : place_in (live_of old) s ≡ length (live_of old) → rack_of new ≡ rack_of old

-- some member of boundary s is refilled
pub record HasFilling (members : ℕ → MemberState) (s : ℕ) : Type 0 where
  pub q : ℕ
  pub have : ℕ
  pub refilled : IsRefilled members s q have

-- What the opening of the seal before a refill left, and what the refill answers where its member went out by that: there is an answer just
-- then.
pub record OpensRefill {R : Type 0} (rack : Ghosts R) (line : Shape) (s limit : ℕ) (old new : Store R) (before after : Option KeptLabel) (ended : Option RebuildAnswer) : Type 0 where
  pub array : KeepsArray rack old new
  pub labels : Relabels rack line old new before after
  pub quiet : labels.opens ≡ false → (limit ≡ 0) ⊎ HasNoFilling (members_of new) s
  pub same : ended ≡ None → HasNoFilling (members_of new) s → (new ≡ old) × (after ≡ before)
  pub was : IfSome ended (λ answer. HasFilling (members_of old) s)
  pub none : IfSome ended (λ answer. HasNoFilling (members_of new) s)
  pub lost : IfSome ended (λ answer. is_lost (members_of new) s ≡ true → answer ≡ RebuildLost s)
  pub fell : IfSome ended (λ answer. is_lost (members_of new) s ≡ false → answer ≡ RebuildFailed)

-- ---- marks of dead blocks

-- The mark of block b says whether it is dead, on each volume for which the inference stands. Of a marked one it is known by what is kept
-- that it isn't pending, and that the plan puts it anywhere.
pub record IsDeadMark (table : Table) (kept : KeptInference) (b : ℕ) (mark : Bool) : Type 0 where
  pub is : (V : List (List ℕ)) → inferences.StandsFor kept V → Decides mark (IsDead table V kept.pending b)
  pub pending : mark ≡ true → is_marked kept.pending b ≡ false
  pub stray : mark ≡ true → IsWantBy kept b Stray

pub record AreDeadMarks (table : Table) (kept : KeptInference) (marks : List Bool) : Type 0 where
  pub size : length marks ≡ table.shape.n
  pub each : (b : ℕ) → IsDeadMark table kept b (is_marked marks b)

-- The marks of blocks that may be reaped: of each dead one, or of none where a boundary is lost or the volume is worn.
pub record AreReapMarks {R : Type 0} (store : Store R) (phase : Phase) (kept : Option KeptInference) (marks : List Bool) : Type 0 where
  pub size : length marks ≡ (shape_of store).n
  pub none : (has_lost (shape_of store) (members_of store) ≡ true) ⊎ (phase ≡ Worn) → (b : ℕ) → is_marked marks b ≡ false
  pub some : ((has_lost (shape_of store) (members_of store) ≡ true) ⊎ (phase ≡ Worn) → ⊥) → IsSome kept
  pub known : (b : ℕ) → is_marked marks b ≡ true → IsSome kept
  pub each : IfSome kept (λ inference. ((has_lost (shape_of store) (members_of store) ≡ true) ⊎ (phase ≡ Worn) → ⊥) → AreDeadMarks (table_of store) inference marks)
  pub safe : IfSome kept (λ inference. (b : ℕ) → is_marked marks b ≡ true → IsDeadMark (table_of store) inference b true)

-- ---- what is left

-- Some dead blocks became blocks of zeros, and no other block changed. Where the volume has a geometry, and its indirect blocks are whole,
-- its claims, owners and malformations are the same then, and so is what is read of it by each path.
pub record AreReaped (table : Table) (marks : List Bool) (V W : List (List ℕ)) : Type 0 where
  pub count : length W ≡ length V
  pub each : (b : ℕ) → (block_in W b ≡ block_in V b) ⊎ (IsDead table V marks b × (block_in W b ≡ zeros table.shape.l))
  pub files : (g : Geometry) → (geometry_of table.shape.l table.shape.n V).value ≡ Ok g → HasWholeIndirects table.shape.l table.shape.n V
      → DifferLoosely table.shape.l table.shape.n V W

-- The volume stands for what it stood for, but for dead blocks.
abbrev pub SparesFiles : {S R : Type 0} → phases.Ghosts S → Ghosts R → Volume S R → Volume S R → Type 0
SparesFiles phase rack old new = (V : List (List ℕ)) → Tells rack new → StandsFor phase rack old V
    → (W : List (List ℕ)) × StandsFor phase rack new W × AreReaped (volumes.table_of old) (marks_of phase old) V W
