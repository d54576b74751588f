-- What a replay leaves that asked for the files that lost blocks. The words are this project's own.
use Rattle.std.specs.Prelude.{◌≡◌, ℕ, List, Ok}
use Rattle.dg_model.specs.Changes.{IsInOrder}
use Rattle.dg_model.specs.Paths.{PathOf}
use Rattle.dg_model.specs.States.{State}
use Rattle.dg_model.specs.Steps.{AreLostIn}
use Rattle.dg_model.specs.Valid.{KeepsPromise}
use Rattle.dg_model.specs.declared.phases.Phase.TheVariants.{Settled}
use Rattle.dg_promise.specs.Promises.{AreTold, FewLost}
use Rattle.ufs_model.specs.Listings.{Listed}
use Rattle.ufs_model.specs.Trees.{tree_of}

-- The array is settled on the boundaries that are in use. These are the regular files of its volume that lost a block with boundaries that are no
-- more in use, in the order of the listing of all directories. As long as fewer than m of the boundaries in use are lost, it keeps its promise of
-- each path.
pub record TellsLostFiles (lost : List PathOf) (state : State) : Type 0 where
  pub settled : state.phase ≡ Settled
  pub order : IsInOrder AreTold state
  pub entries : List Listed
  pub listing : Ok entries ≡ (tree_of state.table.shape.l state.table.shape.n state.blocks).value
  pub lost_are : AreLostIn state entries lost
  pub promise : FewLost state → (path : List ℕ) → KeepsPromise state path
