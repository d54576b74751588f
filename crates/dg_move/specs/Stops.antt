-- How a loss ends the moves of a call.
use Rattle.std.specs.Prelude.{◌≡◌, ◌⊎◌, ◌++◌, ℕ, Bool, false, List, Some}
use Rattle.dg_io.specs.declared.outside.Rack.{Ghosts}
use Rattle.dg_model.specs.Members.{is_lost}
use Rattle.dg_model.specs.Moves.{Action, all_done, moves}
use Rattle.dg_model.specs.States.{has_lost}
use Rattle.dg_store.specs.Stores.{members_of, shape_of, table_of}
use Rattle.dg_store.specs.declared.store.Store.{Store}
use Rattle.dg_move.specs.Stores.{CopyFails, MovesOn}
use Rattle.dg_move.specs.Turns.{move_to}

-- the copy of block b to boundary s stands, and the block gave up its sites on no target
pub record CopyStands {R : Type 0} (rack : Ghosts R) (targets : ℕ → ℕ → Bool) (b s : ℕ) (old new : Store R) : Type 0 where
  pub on : MovesOn rack targets old new
  pub table : table_of new ≡ all_done (table_of old) (move_to targets (table_of old) b s)
  pub stands : is_lost (members_of new) s ≡ false

-- A loss ended the moves of a call. In the middle, when all before one copy was done, no boundary was lost. That copy failed, or stands; so
-- no copy was tried behind a loss, and a block whose copy failed has the sites that it had.
pub record StoppedAt {R : Type 0} (rack : Ghosts R) (targets : ℕ → ℕ → Bool) (limit : ℕ) (old new : Store R) : Type 0 where
  pub middle : Store R
  pub block : ℕ
  pub boundary : ℕ
  pub front : List Action
  pub more : List Action
  pub whole : moves targets (Some limit) (table_of old) ≡ front ++ (move_to targets (table_of middle) block boundary ++ more)
  pub led : table_of middle ≡ all_done (table_of old) front
  pub before : MovesOn rack targets old middle
  pub live : has_lost (shape_of middle) (members_of middle) ≡ false
  pub end : CopyFails rack block boundary middle new ⊎ CopyStands rack targets block boundary middle new
