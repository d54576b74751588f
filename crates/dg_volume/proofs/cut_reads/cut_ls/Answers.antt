use Rattle.std.proofs.Common.{◌∙◌, rules}
use Rattle.ufs_model.specs.Listings.{ls_of}
use Rattle.ufs_path.specs.Answers.{IsAnswer}
use Rattle.dg_volume.proofs.CutLaws.{cut_rule}
use Rattle.dg_volume.proofs.cut_reads.cut_ls.Goals as goal

pub returns-clause-rule : goal.returns-clause-rule
returns-clause-rule g c =
    cut_rule g.R.Rack (λ P. IsAnswer g.O.Listing.took g.O.Listing.took_part g.O.Listing.faults c.args.out.now c.ls.new.out P c.ls.result)
    c.args.in_use.now.cut.items c.new-view.result.cut.now c.ls.new.view.cut.now c.args.store.now c.new-view.result.view.now c.store-1.given.0 c.ls.new.view.view.now
    (λ l n. ls_of l n c.args.path.now) (search rules) (search rules) (c.new-view.ensures.cut ∙ c.deref.ensures.value) c.ls.ensures.keeps.goes.1 c.ls.ensures.rule
