use Rattle.std.proofs.Common.{◌≡◌, [], false, refl, rules}
use Rattle.ufs_dir.specs.Steps.{entry_of}
use Rattle.ufs_model.specs.Chunks.{is_used_entry}
use Rattle.ufs_path.proofs.EntryLaws.{lines_none}
use Rattle.ufs_path.proofs.ConsultLaws.{consults_none}
use Rattle.ufs_path.proofs.walks.list_entry.Goals as goal

pub returns-else-is_used-clause-rule : goal.returns-else-is_used-clause-rule
returns-else-is_used-clause-rule g c =
    let unused : is_used_entry (entry_of c.args.entry.now) ≡ false = search rules in
    rw unused (record {
      lines = [];
      count = refl;
      taken = g.met.O.Listing.nothing c.args.out.now;
      read = lines_none c.args.g.now 1;
    })

pub returns-else-is_used-clause-consults : goal.returns-else-is_used-clause-consults
returns-else-is_used-clause-consults g c = consults_none g.V.View c.args.view.now _ _ (g.met.V.View.fetched_none c.args.view.now) (λ h. h)
