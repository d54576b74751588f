-- What the answers of a refill mean.
use Rattle.std.specs.Prelude.{◌≡◌, ◌+◌, ◌*◌, ◌/◌, ℕ, Bool, false, List}
use Rattle.dg_io.specs.declared.outside.Rack.{Ghosts}
use Rattle.dg_model.specs.Changes.{refilled_to}
use Rattle.dg_model.specs.Members.{IsRefilled, MembersFall, is_filling}
use Rattle.dg_model.specs.Refills.{Refills}
use Rattle.dg_model.specs.Marks.{is_marked}
use Rattle.dg_model.specs.Tables.{IsTaken, StandsIn, Table, used_between}
use Rattle.dg_model.specs.declared.members.MemberState.{MemberState}
use Rattle.dg_model.specs.declared.members.MemberState.TheVariants.{Out}
use Rattle.dg_rebuild.specs.Passed.{IsLeftAt, Passed, WentOn}
use Rattle.dg_store.specs.Leaves.{CallsAtMost, FaultRose}
use Rattle.dg_store.specs.Stores.{members_of, rack_of, shape_of, table_of}
use Rattle.dg_store.specs.declared.store.Store.{Store}

-- no member of boundary s is refilled
abbrev pub HasNoFilling : (ℕ → MemberState) → ℕ → Type 0
HasNoFilling members s = (q : ℕ) → q / 2 ≡ s → is_filling (members q) ≡ false

-- the block in this slot of boundary s isn't marked
abbrev pub IsUnmarkedAt : Table → List Bool → ℕ → ℕ → Type 0
IsUnmarkedAt table marks s slot = (b : ℕ) → StandsIn table b s slot → is_marked marks b ≡ false

-- Within a limit of n copies, d slots were copied and l used ones are left. The member is refilled so far, to a slot of which the block isn't
-- marked, or good behind the last slot. A copied slot takes at most two calls, and any other none.
pub record HasCopied {R : Type 0} (rack : Ghosts R) (marks : List Bool) (s n d l : ℕ) (before after : List ℕ) (old new : Store R) : Type 0 where
  pub q : ℕ
  pub low : ℕ
  pub high : ℕ
  pub filling : IsRefilled (members_of old) s q low
  pub slots : Passed rack marks s low high before after old new
  pub refills : Refills (table_of new) s low high n d l
  pub kept : IsUnmarkedAt (table_of old) marks s high
  pub members : IsLeftAt (members_of old) (members_of new) q (refilled_to ((shape_of old).k + 1) high)
  pub most : CallsAtMost rack old new (2 * d)

-- The refill was broken off at a used slot that couldn't be copied; its block isn't marked.
pub record HasBrokenOff {R : Type 0} (rack : Ghosts R) (marks : List Bool) (s : ℕ) (before after : List ℕ) (old new : Store R) : Type 0 where
  pub q : ℕ
  pub low : ℕ
  pub high : ℕ
  pub filling : IsRefilled (members_of old) s q low
  pub slots : Passed rack marks s low high before after old new
  pub at : IsTaken (table_of new) s high
  pub kept : IsUnmarkedAt (table_of old) marks s high
  pub members : MembersFall (rack.counts (rack_of old)).faults (rack.counts (rack_of new)).faults (members_of old) (members_of new)
  pub most : CallsAtMost rack old new (2 * used_between (table_of new) s low high + 2)

-- the refilled member of boundary s went out by a fault of its own
pub record FillingFell {R : Type 0} (rack : Ghosts R) (s : ℕ) (old new : Store R) : Type 0 where
  pub q : ℕ
  pub low : ℕ
  pub filling : IsRefilled (members_of old) s q low
  pub out : members_of new q ≡ Out
  pub rose : FaultRose rack old new q

-- No memory: the refill stands at the slot that it came to.
pub record HasPaused {R : Type 0} (rack : Ghosts R) (marks : List Bool) (s : ℕ) (before after : List ℕ) (old new : Store R) : Type 0 where
  pub low : ℕ
  pub high : ℕ
  pub copies : ℕ
  pub came : WentOn rack marks s low high copies before after old new
