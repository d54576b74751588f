use Rattle.std.proofs.Common.{◌≡◌, ◌*◌, length}
use Rattle.dg_io.specs.ViewWords.{Keeps}
use Rattle.ufs_model.specs.Blocks.{Volume, area_of, block_at}
use Rattle.dg_infer.specs.Areas.{IsRest}
use Rattle.dg_infer.specs.Fetched.{FetchesOnce}
use Rattle.dg_infer.proofs.areas.read_rest.Given as goal

abbrev pub invariant-loop-i : goal.invariant-loop-i
invariant-loop-i g l = record {
  keeps : Keeps g.V.View l.fn.view l.view;
  levels : l.levels.fragment ≡ l.fn.levels.fragment;
  room : length l.area.items ≡ l.i * g.V.View.size l.fn.view;
  area : g.V.View.tells l.view → (v : Volume) → g.V.View.stands_for l.fn.view v → l.bytes ≡ block_at (g.V.View.size l.fn.view) v l.block
      → l.area.items ≡ (area_of (g.V.View.size l.fn.view) l.a l.i v).value;
  fetched : FetchesOnce g.V.View.fetched (IsRest l.a l.i l.block) l.fn.view l.view;
}
