use Rattle.std.proofs.Common.{◌≡◌, ◌-◌, ◌*◌, ◌≤◌, ◌++◌, List, drop}
use Rattle.dg_io.specs.Views.{KeepsView}
use Rattle.ufs_model.specs.Chunks.{DirEntry}
use Rattle.ufs_model.specs.Listings.{listed_entries}
use Rattle.ufs_model.specs.Paths.{chunks_in}
use Rattle.ufs_model.specs.Readings.{ReadsAs}
use Rattle.ufs_path.specs.Consults.{Consults}
use Rattle.ufs_path.specs.Walks.{AreHanded, entries_among}
use Rattle.ufs_path.proofs.walks.list_chunks.Given as goal

abbrev pub invariant-loop-i : goal.invariant-loop-i
invariant-loop-i g l = record {
  keeps : KeepsView g.V.View.stands_for g.V.View.tells g.V.View.is_gone g.V.View.count g.V.View.size g.V.View.is_sound g.V.View.goes_on l.fn.view l.view;
  levels : l.levels.fragment ≡ g.V.View.size l.fn.view;
  block : l.levels.block ≡ l.fn.levels.block;
  later : g.O.Listing.faults l.fn.out ≤ g.O.Listing.faults l.out;
  few : l.given ≤ l.i * 512;
  handed : (done : List DirEntry) × (entries_among l.g.endian (chunks_in l.count l.fn.levels.block) ≡ done ++ entries_among l.g.endian (chunks_in (l.count - l.i) (drop (l.i * 512) l.fn.levels.block)))
      × AreHanded g.O.Listing.took l.fn.out l.out done
      (λ entries. ReadsAs (g.V.View.stands_for l.fn.view) (g.V.View.is_gone l.fn.view) (g.V.View.tells l.view) (g.V.View.is_gone l.view) (listed_entries l.g 1 entries)) l.given;
  consulted : Consults g.V.View l.fn.view l.view (listed_entries l.g 1 (entries_among l.g.endian (chunks_in l.count l.fn.levels.block))) ⊥;
  stays : g.O.Listing.faults l.out ≡ g.O.Listing.faults l.fn.out;
}
