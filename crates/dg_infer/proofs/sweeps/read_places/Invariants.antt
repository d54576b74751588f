use Rattle.std.proofs.Common.{◌≡◌, length}
use Rattle.dg_io.specs.ViewWords.{Keeps}
use Rattle.ufs_model.specs.Blocks.{Volume, block_at}
use Rattle.dg_claims.specs.Kept.{claimed_by}
use Rattle.dg_infer.specs.Areas.{IsAreaRest}
use Rattle.dg_infer.specs.Fetched.{FetchesOnce}
use Rattle.dg_infer.specs.Sweeps.{AreKindsBefore, AreMarksBefore, AreSlotsBefore, HasGathered}
use Rattle.dg_infer.specs.Watches.{Grows, KeepsWatch}
use Rattle.dg_infer.proofs.sweeps.read_places.Given as goal

abbrev pub invariant-loop-place : goal.invariant-loop-place
invariant-loop-place g l = record {
  keeps : Keeps g.V.View l.fn.view l.view;
  levels : l.levels.fragment ≡ l.fn.levels.fragment;
  grows : Grows l.fn.sweep.watch l.sweep.watch;
  geometry : l.sweep.claims.geometry ≡ l.fn.sweep.claims.geometry;
  room : length l.sweep.free.items ≡ length l.fn.sweep.free.items;
  gathered : HasGathered l.g l.place l.sweep.group.items;
  watched : KeepsWatch (claimed_by l.fn.sweep.claims.runs) l.fn.sweep.watch (claimed_by l.sweep.claims.runs) l.sweep.watch;
  slots : g.V.View.tells l.view → (v : Volume) → g.V.View.stands_for l.fn.view v → l.bytes ≡ block_at (g.V.View.size l.fn.view) v l.block
      → AreSlotsBefore l.g v 0 (claimed_by l.fn.sweep.claims.runs) → AreSlotsBefore l.g v l.place (claimed_by l.sweep.claims.runs);
  kinds : g.V.View.tells l.view → (v : Volume) → g.V.View.stands_for l.fn.view v → l.bytes ≡ block_at (g.V.View.size l.fn.view) v l.block
      → AreKindsBefore l.g v 0 l.fn.sweep.kinds.entries → AreKindsBefore l.g v l.place l.sweep.kinds.entries;
  marks : g.V.View.tells l.view → (v : Volume) → g.V.View.stands_for l.fn.view v → l.bytes ≡ block_at (g.V.View.size l.fn.view) v l.block
      → AreMarksBefore l.g v 0 l.fn.sweep.free.items l.fn.sweep.group.items → AreMarksBefore l.g v l.place l.sweep.free.items l.sweep.group.items;
  fetched : FetchesOnce g.V.View.fetched (IsAreaRest l.g l.place l.block) l.fn.view l.view;
}
