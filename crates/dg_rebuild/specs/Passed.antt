-- How far the refill of a member came.
use Rattle.std.specs.Prelude.{◌≡◌, ◌≢◌, ◌+◌, ◌*◌, ◌++◌, ◌/◌, ℕ, Bool, true, List, length}
use Rattle.ufs_model.specs.Blocks.{Volume}
use Rattle.dg_io.specs.declared.outside.Rack.{Ghosts}
use Rattle.dg_model.specs.Members.{IsRefilled, MembersFall, is_filling}
use Rattle.dg_model.specs.Refills.{Reaps}
use Rattle.dg_model.specs.Tables.{used_between}
use Rattle.dg_model.specs.declared.members.MemberState.{MemberState}
use Rattle.dg_model.specs.declared.members.MemberState.TheVariants.{Filling, Out}
use Rattle.dg_pair.specs.Calls.{KeepsBeside}
use Rattle.dg_rebuild.specs.Reaped.{AreMarkedBetween, is_among, zeroed}
use Rattle.dg_store.specs.Leaves.{CallsAtMost, KeepsOut, PutsOut, Stays}
use Rattle.dg_store.specs.Stores.{IsSound, KeepsBlocks, StandsFor, TellsAll, members_of, rack_of, shape_of, table_of}
use Rattle.dg_store.specs.declared.store.Store.{Store}

-- What calls leave of counts of faults: a member of which one rose is out; and one that was out is so still, and wasn't called.
pub record FaultsTell {R : Type 0} (rack : Ghosts R) (old new : Store R) : Type 0 where
  pub fell : PutsOut rack old new
  pub idle : KeepsOut rack old new
  pub out : (q : ℕ) → members_of old q ≡ Out → members_of new q ≡ Out

-- The slots of boundary s from one to before another were passed, and just the marked blocks in them were reaped: they joined a list, in
-- the order of their slots. The array stands for what it stood for, but that they are zeros, where each member tells its bytes.
pub record Passed {R : Type 0} (rack : Ghosts R) (marks : List Bool) (s low high : ℕ) (before after : List ℕ) (old new : Store R) : Type 0 where
  pub sound : IsSound rack new
  pub stays : Stays rack old new
  pub faults : FaultsTell rack old new
  pub beside : KeepsBeside (shape_of old).l ((shape_of old).k + 1) (rack.bytes (rack_of old)) (rack.bytes (rack_of new))
  pub reaped : List ℕ
  pub joined : after ≡ before ++ reaped
  pub marked : AreMarkedBetween (table_of old) marks s low high reaped
  pub reaps : (V : Volume) → length V ≡ (shape_of old).n
      → Reaps (table_of old) V s low high (is_among reaped) (table_of new) (zeroed (shape_of old).l reaped V)
  pub stands : TellsAll rack new → (V : Volume) → StandsFor rack old V → StandsFor rack new (zeroed (shape_of old).l reaped V)

-- boundary s has a member that is refilled, up to this slot
pub record HasMemberAt (members : ℕ → MemberState) (s have : ℕ) : Type 0 where
  pub member : ℕ
  pub refilled : IsRefilled members s member have

-- member q, which is refilled, does this now, and each other member does what it did
pub record IsLeftAt (old new : ℕ → MemberState) (q : ℕ) (state : MemberState) : Type 0 where
  pub member : new q ≡ state
  pub others : (p : ℕ) → p ≢ q → new p ≡ old p

-- the member of boundary s that was refilled up to one slot is refilled up to another now
pub record GoesUp (old new : ℕ → MemberState) (s low high : ℕ) : Type 0 where
  pub q : ℕ
  pub was : IsRefilled old s q low
  pub left : IsLeftAt old new q (Filling high)

-- The refill of boundary s went on from one slot to another, and made so many copies. Each takes two calls, and nothing else takes one.
pub record WentOn {R : Type 0} (rack : Ghosts R) (marks : List Bool) (s low high copies : ℕ) (before after : List ℕ) (old new : Store R) : Type 0 where
  pub slots : Passed rack marks s low high before after old new
  pub members : GoesUp (members_of old) (members_of new) s low high
  pub copied : copies ≡ used_between (table_of new) s low high
  pub most : CallsAtMost rack old new (2 * copies)

-- The next slot of the refill of boundary s couldn't be copied: the member that was refilled is out, and all stands where it stood.
pub record CouldNot {R : Type 0} (rack : Ghosts R) (s : ℕ) (old new : Store R) : Type 0 where
  pub sound : IsSound rack new
  pub stays : Stays rack old new
  pub faults : FaultsTell rack old new
  pub beside : KeepsBeside (shape_of old).l ((shape_of old).k + 1) (rack.bytes (rack_of old)) (rack.bytes (rack_of new))
  pub table : table_of new ≡ table_of old
  pub stands : KeepsBlocks rack old new
  pub falls : MembersFall (rack.counts (rack_of old)).faults (rack.counts (rack_of new)).faults (members_of old) (members_of new)
  pub out : (q : ℕ) → q / 2 ≡ s → is_filling (members_of old q) ≡ true → members_of new q ≡ Out
  pub most : CallsAtMost rack old new 2
