-- How one round after another goes on, once the first has tidied the table.
use Rattle.std.specs.Prelude.{◌≡◌, ◌≢◌, ◌⊎◌, ◌<◌, ◌≤◌, ◌+◌, ◌++◌, ℕ, Bool, true, false, List, [], ◌∷◌}
use Rattle.dg_io.specs.declared.outside.Rack.{Ghosts}
use Rattle.dg_model.specs.Members.{is_lost}
use Rattle.dg_model.specs.Moves.{Action, all_done, copy_to, give_ups, is_missing, off_target, rounds, spare, tidying}
use Rattle.dg_model.specs.States.{has_lost}
use Rattle.dg_model.specs.Tables.{Table, sites_in, used_in}
use Rattle.dg_model.specs.declared.members.MemberState.{MemberState}
use Rattle.dg_store.specs.Stores.{members_of, shape_of, table_of}
use Rattle.dg_store.specs.declared.store.Store.{Store}
use Rattle.dg_move.specs.Cursors.{AreCursors}
use Rattle.dg_move.specs.Stores.{CopyFails}

-- block b is copied to boundary s, and gives up its sites on no target
abbrev pub move_to : (ℕ → ℕ → Bool) → Table → ℕ → ℕ → List Action
move_to targets table b s = copy_to b s ∷ give_ups b (off_target (targets b) (sites_in table b))

-- the least missing placement, by block and then by boundary, whose boundary has at most K used slots
pub record IsNext (targets : ℕ → ℕ → Bool) (table : Table) (b s : ℕ) : Type 0 where
  pub block : b < table.shape.n
  pub boundary : s < table.shape.b
  pub missing : is_missing targets table b s ≡ true
  pub room : used_in table s ≤ table.shape.k
  pub least : (c t : ℕ) → t < table.shape.b → is_missing targets table c t ≡ true → used_in table t ≤ table.shape.k
      → (b < c) ⊎ ((b ≡ c) × (s ≤ t))

-- block b stands on boundary s too, has no site that it can do without, and all else is as before
pub record Meets (targets : ℕ → ℕ → Bool) (old new : Table) (b s : ℕ) : Type 0 where
  pub acts : new ≡ all_done old (move_to targets old b s)
  pub others : (c : ℕ) → c ≢ b → sites_in new c ≡ sites_in old c
  pub none : spare (targets b) (sites_in new b) ≡ []
  pub met : is_missing targets new b s ≡ false
  pub rest : (c t : ℕ) → (c ≡ b → t ≢ s) → is_missing targets new c t ≡ is_missing targets old c t

-- the copy of block b to boundary s failed, so a boundary is lost
pub record IsStopped {R : Type 0} (rack : Ghosts R) (b s : ℕ) (old new : Store R) : Type 0 where
  pub fails : CopyFails rack b s old new
  pub lost : has_lost (shape_of new) (members_of new) ≡ true

-- the next placement was met, and its copy stands
pub record IsTurn (targets : ℕ → ℕ → Bool) (old new : Table) (members : ℕ → MemberState) (next : List ℕ) (b s : ℕ) : Type 0 where
  pub meets : Meets targets old new b s
  pub stands : is_lost members s ≡ false
  pub cursors : AreCursors targets new next

-- Of so many rounds from a table, a number was done. The blocks then gave up what they can do without; after a round none can give
-- up a site.
pub record IsTurned (targets : ℕ → ℕ → Bool) (total count : ℕ) (old now : Table) : Type 0 where
  pub left : ℕ
  pub all : count + left ≡ total
  pub acts : List Action
  pub turned : Table
  pub whole : rounds targets total old ≡ acts ++ rounds targets left turned
  pub led : turned ≡ all_done old acts
  pub tidy : now ≡ all_done turned (tidying targets turned)
  pub still : 0 < count → turned ≡ now
  pub start : count ≡ 0 → turned ≡ old

-- what a round comes to: the next placement was met, or its copy failed
pub record TurnsOrStops {R : Type 0} (rack : Ghosts R) (targets : ℕ → ℕ → Bool) (old new : Store R) (next : List ℕ) : Type 0 where
  pub block : ℕ
  pub boundary : ℕ
  pub first : IsNext targets (table_of old) block boundary
  pub end : IsTurn targets (table_of old) (table_of new) (members_of new) next block boundary ⊎ IsStopped rack block boundary old new
