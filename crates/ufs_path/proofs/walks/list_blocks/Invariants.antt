use Rattle.std.proofs.Common.{◌≡◌, ◌*◌, ◌≤◌, min}
use Rattle.dg_io.specs.Views.{KeepsView}
use Rattle.ufs_model.specs.Listings.{listed_entries}
use Rattle.ufs_model.specs.Paths.{entries_before}
use Rattle.ufs_model.specs.Readings.{ReadsAs}
use Rattle.ufs_pointer.specs.Fetches.{IsNeeded}
use Rattle.ufs_path.specs.Consults.{ConsultsKind}
use Rattle.ufs_path.specs.Walks.{AreHanded, ReadsEntries, Through, lines_before}
use Rattle.ufs_path.proofs.walks.list_blocks.Given as goal

abbrev pub invariant-loop-n : goal.invariant-loop-n
invariant-loop-n g l = record {
  keeps : KeepsView g.V.View.stands_for g.V.View.tells g.V.View.is_gone g.V.View.count g.V.View.size g.V.View.is_sound g.V.View.goes_on l.fn.view l.view;
  levels : l.levels.fragment ≡ g.V.View.size l.fn.view;
  later : g.O.Listing.faults l.fn.out ≤ g.O.Listing.faults l.out;
  few : l.given ≤ min (l.n * l.g.bsize) l.inode.size;
  handed : Through l.n
      (λ k. ReadsAs (g.V.View.stands_for l.fn.view) (g.V.View.is_gone l.fn.view) (g.V.View.tells l.view) (g.V.View.is_gone l.view) (entries_before l.g l.inode k))
      (λ done. AreHanded g.O.Listing.took l.fn.out l.out done
      (λ entries. ReadsAs (g.V.View.stands_for l.fn.view) (g.V.View.is_gone l.fn.view) (g.V.View.tells l.view) (g.V.View.is_gone l.view) (listed_entries l.g 1 entries)) l.given);
  consulted : ConsultsKind g.V.View l.fn.view l.view (λ v. g.V.View.stands_for l.fn.view v × ReadsEntries l.g l.inode l.count v) (IsNeeded (lines_before l.g l.inode l.count)) ⊥;
  stays : g.O.Listing.faults l.out ≡ g.O.Listing.faults l.fn.out;
}
