use Rattle.ufs_check.specs.OwnedEntries.{owned_all}
use Rattle.ufs_check.proofs.OwnedLaws.{on_ok}
use Rattle.ufs_check.proofs.ParentLaws.{ups_next}
use Rattle.ufs_check.proofs.parents.add_directory.Goals as goal

pub returns : goal.returns
returns c = on_ok c.add_links.result _ _ (λ added g v all so_far. record {
  ups = ups_next g v c.args.i (owned_all c.args.entries.now) c.up_of.result c.args.table.now.ups c.add_up.new.ups all.are (c.up_of.ensures g v all) c.in_ok-add_up.ensures so_far.ups;
  parents = added g v all so_far.parents;
}) c.add_links.ensures
