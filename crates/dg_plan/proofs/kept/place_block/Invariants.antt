use Rattle.std.proofs.Common.{◌≡◌, length}
use Rattle.dg_model.specs.Plans.{each_ok, place_kept, places_of}
use Rattle.dg_plan.proofs.EachLaws.{places_from}
use Rattle.dg_plan.proofs.kept.place_block.Given as goal

abbrev pub invariant-loop-place : goal.invariant-loop-place
invariant-loop-place l = record {
  left : each_ok place_kept (places_from l.shape l.block l.place) l.rooms.items ≡ each_ok place_kept (places_of l.shape l.block) l.fn.rooms.items;
  size : length l.rooms.items ≡ length l.fn.rooms.items;
}
