use Rattle.std.proofs.Common.{◌≡◌, ◌≤◌, false, List, take}
use Rattle.std.specs.Prelude.{Option}
use Rattle.std.specs.List.{list_any}
use Rattle.dg_model.specs.Copies.{lacks_copy}
use Rattle.dg_model.specs.States.{has_lost}
use Rattle.dg_model.specs.declared.wants.Want.{Want}
use Rattle.dg_store.specs.Leaves.{CallsAtMost}
use Rattle.dg_store.specs.Stores.{members_of, shape_of, table_of}
use Rattle.dg_hot.specs.Spreads.{AreListed, HasSpread, Moved, copy_calls, count_in}
use Rattle.dg_hot.proofs.spreads.diffuse.Given as goal

abbrev pub invariant-loop-place : goal.invariant-loop-place
invariant-loop-place g l = record {
  moved : Moved g.R.Rack l.fn.store l.store;
  whole : has_lost (shape_of l.store) (members_of l.store) ≡ false;
  spread : (wants : List (Option Want)) → AreListed wants (table_of l.fn.store) l.homes l.fn.copies l.hot l.blocks
      → HasSpread wants l.homes l.files.items l.place l.gained l.fn.copies l.copies l.fn.store l.store;
  few : l.gained ≤ l.place;
  most : CallsAtMost g.R.Rack l.fn.store l.store (copy_calls (table_of l.fn.store) (count_in (take l.place l.blocks)));
  still : list_any (lacks_copy l.homes l.fn.copies) l.hot ≡ false → (l.store ≡ l.fn.store) × (l.copies ≡ l.fn.copies);
}
