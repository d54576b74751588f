use Rattle.std.proofs.Common.{◌≡◌, ◌*◌, length, take, Some}
use Rattle.std.specs.List.{range_with_len}
use Rattle.dg_io.specs.Views.{KeepsView}
use Rattle.ufs_model.specs.Blocks.{area_of}
use Rattle.ufs_model.specs.Readings.{ReadsAs}
use Rattle.ufs_pointer.proofs.areas.read_area.Given as goal

abbrev pub invariant-loop-i : goal.invariant-loop-i
invariant-loop-i g l = record {
  keeps : KeepsView g.V.View.stands_for g.V.View.tells g.V.View.is_gone g.V.View.count g.V.View.size g.V.View.is_sound g.V.View.goes_on l.fn.view l.view;
  room : length l.buf ≡ l.k * l.bytes;
  reads : ReadsAs (g.V.View.stands_for l.fn.view) (g.V.View.is_gone l.fn.view) (g.V.View.tells l.view) (g.V.View.is_gone l.view)
      (area_of (g.V.View.size l.fn.view) l.a l.i) (Some (take (l.i * l.bytes) l.buf));
  were : g.V.View.fetched l.fn.view (range_with_len l.a l.i) l.view;
}
