use Rattle.std.proofs.Common.{◌≡◌, List, take}
use Rattle.std.specs.Prelude.{Option, map}
use Rattle.dg_hot.specs.Spreads.{lists_in, to_copy}
use Rattle.dg_model.specs.declared.wants.Want.{Want}
use Rattle.dg_store.specs.Stores.{table_of}
use Rattle.dg_volume.specs.Planned.{AreWanted}
use Rattle.dg_volume.proofs.file_lists.file_lists.Given as goal

abbrev pub invariant-loop-place : goal.invariant-loop-place
invariant-loop-place g l = (wants : List (Option Want)) → AreWanted (table_of l.store) l.inference wants → lists_in l.lists.items ≡ map (to_copy wants l.homes l.copies) (take l.place l.files)
