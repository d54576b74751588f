use Rattle.std.proofs.Common.{◌≡◌, drop}
use Rattle.dg_model.specs.Sites.{all_lost}
use Rattle.dg_store.specs.Rows.{members_in}
use Rattle.dg_store.proofs.places.all_lost_at.Given as goal

abbrev pub invariant-loop-site : goal.invariant-loop-site
invariant-loop-site l = all_lost (members_in l.row.items) (drop l.site-index l.sites) ≡ all_lost (members_in l.row.items) l.sites
