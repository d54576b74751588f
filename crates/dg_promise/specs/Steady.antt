-- What every state keeps that is reached from the blank array, where the bytes are told. The words are this project's own.
use Rattle.std.specs.Prelude.{◌≡◌, ◌≢◌, ◌≤◌, ℕ, List, [], All, length}
use Rattle.dg_model.specs.Changes.{IsInOrder}
use Rattle.dg_model.specs.Homes.{Ascend}
use Rattle.dg_model.specs.States.{State}
use Rattle.dg_model.specs.Tables.{IsTable}
use Rattle.dg_model.specs.declared.events.Event.{Event}
use Rattle.dg_model.specs.declared.events.Event.TheVariants.{Write}
use Rattle.dg_model.specs.declared.phases.Phase.TheVariants.{Settled}
use Rattle.dg_promise.specs.Promises.{AreTold}

-- the sites are a table, each block has l bytes, the homes ascend, only a settled array has copies, and a settled one is in order
pub record IsSteady (state : State) : Type 0 where
  pub sites : IsTable state.table
  pub size : All (λ block. length block ≡ state.table.shape.l) state.blocks
  pub homes : Ascend state.homes
  pub no_copies : state.phase ≢ Settled → state.copies ≡ []
  pub settled : state.phase ≡ Settled → IsInOrder AreTold state

-- the event writes no more bytes than a block has, if it is a write
abbrev pub FitsBlock : ℕ → Event → Type 0
FitsBlock l event = (b : ℕ) (bytes : List ℕ) → event ≡ Write b bytes → length bytes ≤ l
