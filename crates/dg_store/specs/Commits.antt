-- What a commit leaves of a store: its sites, its members and their bytes are as they were.
use Rattle.std.specs.Prelude.{◌≡◌, ◌≢◌, ℕ, true, false, List, Option}
use Rattle.dg_io.specs.Commits.{fell_in, is_marked, LeavesCommit}
use Rattle.dg_io.specs.declared.checkpoints.CommitAnswer.{CommitAnswer}
use Rattle.dg_io.specs.declared.outside.Rack.{Ghosts}
use Rattle.dg_model.specs.declared.members.MemberState.TheVariants.{Out}
use Rattle.dg_store.specs.Stores.{IsSound, IsWhole, KeepsBlocks, members_of, rack_of, table_of}
use Rattle.dg_store.specs.declared.store.Store.{Store}

-- What a commit leaves, with its answer. `room` is the room for extra bytes that the rack has.
pub record CommitLeaves {R : Type 0} (rack : Ghosts R) (room : R → Option ℕ) (keep : ℕ) (extra : List ℕ) (answer : CommitAnswer) (old new : Store R) : Type 0 where
  pub table : table_of new ≡ table_of old
  pub members : members_of new ≡ members_of old
  pub leaves : LeavesCommit rack room keep extra answer (rack_of old) (rack_of new)
  pub whole : IsWhole rack old → IsWhole rack new
  pub blocks : KeepsBlocks rack old new
  -- each member that isn't out stands on, but for those that the answer names
  pub stand : IsSound rack old → (q : ℕ) → is_marked (fell_in keep answer) q ≡ false → members_of old q ≢ Out → rack.stands (rack_of new) q ≡ true
  -- so it is sound where it names none of them
  pub sound : IsSound rack old → ((q : ℕ) → is_marked (fell_in keep answer) q ≡ true → members_of old q ≡ Out) → IsSound rack new
