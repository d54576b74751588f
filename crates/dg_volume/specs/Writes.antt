-- What a write of a block leaves of a volume, by its answer.
use Rattle.std.specs.Prelude.{◌≡◌, ◌⊎◌, ℕ, List, slice_set}
use Rattle.dg_infer.specs.Meanings.{KeptInference}
use Rattle.dg_infer.specs.Meanings as inferences
use Rattle.dg_io.specs.declared.outside.Rack.{Ghosts}
use Rattle.dg_model.specs.Blocks.{padded}
use Rattle.dg_model.specs.Rereads.{Rereads, count_read}
use Rattle.dg_model.specs.declared.events.Event.TheVariants.{Write}
use Rattle.dg_model.specs.declared.replies.Reply.{Reply}
use Rattle.dg_model.specs.declared.replies.Reply.TheVariants.{Degraded as DegradedReply, Done, Range as RangeReply}
use Rattle.dg_store.specs.Leaves.{CallsAtMost, NoFault}
use Rattle.dg_store.specs.Stores.{TellsAll}
use Rattle.dg_store.specs.Stores as stores
use Rattle.dg_store.specs.declared.store.Store.{Store}
use Rattle.dg_volume.specs.Volumes.{Leaves, StepsTo, Tells, given_of, loose_phase, shape_of, worn_phase}
use Rattle.dg_volume.specs.declared.writes.WriteAnswer.{WriteAnswer}
use Rattle.dg_volume.specs.declared.writes.WriteAnswer.TheVariants.{Degraded as AnyDegraded, Range as AnyRange, Written}
use Rattle.dg_volume.specs.declared.phases.InPhase as phases
use Rattle.dg_volume.specs.declared.volumes.Volume.{Volume}
use Rattle.dg_volume.specs.declared.writes.Wrote.{Wrote}
use Rattle.dg_volume.specs.declared.writes.Wrote.TheVariants.{Degraded, Loose, Range, Worn}

-- The volume made a step by each write of block b with bytes that fill it so, and tells the inode that it told.
pub record WritesTo {S T R : Type 0} (from : phases.Ghosts S) (to : phases.Ghosts T) (rack : Ghosts R) (old : Volume S R) (b : ℕ) (block : List ℕ) (reply : Reply) (new : Volume T R) : Type 0 where
  pub leaves : Leaves from to rack old new
  pub given_is : given_of new ≡ given_of old
  pub steps : (bytes : List ℕ) → block ≡ padded (shape_of old).l bytes → StepsTo from to rack old (Write b bytes) reply new

-- by each answer
abbrev pub AnswersWrite : {S R : Type 0} → phases.Ghosts S → Ghosts R → Volume S R → ℕ → List ℕ → Wrote S R → Type 0
AnswersWrite phase rack old b block (Loose new) = WritesTo phase loose_phase rack old b block Done new
AnswersWrite phase rack old b block (Worn new) = WritesTo phase worn_phase rack old b block Done new
AnswersWrite phase rack old b block (Range new) = WritesTo phase phase rack old b block RangeReply new
AnswersWrite phase rack old b block (Degraded new) = WritesTo phase phase rack old b block DegradedReply new

-- What the array stood for it stands for still, or for what a write of block b made of that, where each member tells its bytes.
abbrev pub KeepsOrWrites : {S T R : Type 0} → Ghosts R → ℕ → List ℕ → Volume S R → Volume T R → Type 0
KeepsOrWrites rack b block old new =
    Tells rack new → (V : List (List ℕ)) → stores.StandsFor rack old.store V
    → stores.StandsFor rack new.store V ⊎ stores.StandsFor rack new.store (slice_set V b block)

-- the replies, where the phase is told only when the program runs
abbrev pub write_reply : WriteAnswer → Reply
write_reply Written = Done
write_reply AnyRange = RangeReply
write_reply AnyDegraded = DegradedReply

-- ---- following a write

-- The array stood for what a write of block b made of V, and tells its bytes in the end. The inference stood for V.
pub record IsFollowed {R : Type 0} (rack : Ghosts R) (old new : Store R) (kept : KeptInference) (b : ℕ) (block : List ℕ) (V : List (List ℕ)) : Type 0 where
  pub tells : TellsAll rack new
  pub stands : stores.StandsFor rack old (slice_set V b block)
  pub was : inferences.StandsFor kept V

-- At most one call was made for each block that a write of block b gives reason to read, where no fault came.
pub record RereadsFew {R : Type 0} (rack : Ghosts R) (Known : Type 0) (old new : Store R) (before after : List (List ℕ)) (b : ℕ) : Type 0 where
  pub rereads : Rereads Known (stores.shape_of old).l (stores.shape_of old).n before after b
  pub few : NoFault rack old new → CallsAtMost rack old new (count_read rereads)
