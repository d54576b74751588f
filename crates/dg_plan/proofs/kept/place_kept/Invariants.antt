use Rattle.std.proofs.Common.{◌≡◌, length}
use Rattle.std.specs.List.{flat_map}
use Rattle.dg_model.specs.Plans.{blocks_with, each_ok, is_kept, place_kept, places_of}
use Rattle.dg_plan.proofs.EachLaws.{kept_from}
use Rattle.dg_plan.proofs.kept.place_kept.Given as goal

abbrev pub invariant-loop-block : goal.invariant-loop-block
invariant-loop-block l = record {
  left : each_ok place_kept (kept_from l.shape l.wants l.block) l.rooms.items ≡ each_ok place_kept (flat_map (places_of l.shape) (blocks_with is_kept l.wants)) l.fn.rooms.items;
  size : length l.rooms.items ≡ length l.fn.rooms.items;
}
