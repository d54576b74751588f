use Rattle.std.proofs.Common.{◌≡◌, true}
use Rattle.dg_io.specs.ViewWords.{Keeps}
use Rattle.ufs_model.specs.Blocks.{Volume}
use Rattle.ufs_model.specs.Paths.{entries_before}
use Rattle.ufs_path.specs.Consults.{ConsultsKind}
use Rattle.ufs_path.specs.Parents.{IsFileRead, Judges}
use Rattle.ufs_path.proofs.chunk_runs.judge_blocks.Given as goal

abbrev pub invariant-loop-n : goal.invariant-loop-n
invariant-loop-n g l = record {
  keeps : Keeps g.V.View l.fn.view l.view;
  levels : l.levels.fragment ≡ g.V.View.size l.fn.view;
  judged : g.V.View.tells l.view → (v : Volume) → g.V.View.stands_for l.fn.view v → Judges l.g v ((entries_before l.g l.inode l.n v).value) true l.fn.runs.entries l.runs.entries;
  consulted : ConsultsKind g.V.View l.fn.view l.view (g.V.View.stands_for l.fn.view) (IsFileRead l.g l.inode) ⊥;
}
