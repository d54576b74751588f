use Rattle.std.proofs.Common.{◌≡◌, ◌≤◌}
use Rattle.dg_model.specs.Members.{is_lost}
use Rattle.dg_model.specs.Moves.{count_upto}
use Rattle.dg_store.specs.Stores.{members_of}
use Rattle.dg_volume.proofs.left_lists.count_lost.Given as goal

abbrev pub invariant-loop-place : goal.invariant-loop-place
invariant-loop-place g l = record { few : l.count ≤ l.place; count_is : l.count ≡ count_upto l.place (is_lost (members_of l.store)) }
