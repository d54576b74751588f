use Rattle.std.proofs.Common.{◌≡◌, ◌+◌, ◌≤◌, ◌++◌, List, length}
use Rattle.dg_io.specs.Views.{KeepsView}
use Rattle.ufs_model.specs.Chunks.{DirEntry, entries_in, used_entries}
use Rattle.ufs_model.specs.Listings.{listed_entries}
use Rattle.ufs_model.specs.Readings.{ReadsAs}
use Rattle.ufs_path.specs.Consults.{Consults}
use Rattle.ufs_path.specs.Walks.{AreHanded}
use Rattle.ufs_path.proofs.walks.list_chunk.Given as goal

abbrev pub invariant-loop-entry : goal.invariant-loop-entry
invariant-loop-entry g l = record {
  keeps : KeepsView g.V.View.stands_for g.V.View.tells g.V.View.is_gone g.V.View.count g.V.View.size g.V.View.is_sound g.V.View.goes_on l.fn.view l.view;
  levels : l.levels.fragment ≡ g.V.View.size l.fn.view;
  block : l.levels.block ≡ l.fn.levels.block;
  later : g.O.Listing.faults l.fn.out ≤ g.O.Listing.faults l.out;
  few : l.given + length l.entries.entries ≤ 512;
  handed : (done : List DirEntry) × (used_entries (entries_in l.g.endian 0 l.chunk) ≡ done ++ used_entries l.entries.entries)
      × AreHanded g.O.Listing.took l.fn.out l.out done
      (λ entries. ReadsAs (g.V.View.stands_for l.fn.view) (g.V.View.is_gone l.fn.view) (g.V.View.tells l.view) (g.V.View.is_gone l.view) (listed_entries l.g 1 entries)) l.given;
  consulted : Consults g.V.View l.fn.view l.view (listed_entries l.g 1 (used_entries (entries_in l.g.endian 0 l.chunk))) ⊥;
  stays : g.O.Listing.faults l.out ≡ g.O.Listing.faults l.fn.out;
}

abbrev pub decreases-loop-entry : goal.decreases-loop-entry
decreases-loop-entry g l = length l.entries.entries
