use Rattle.std.proofs.Common.{◌∙◌, rules}
use Rattle.ufs_model.specs.Paths.{cat_of}
use Rattle.ufs_path.specs.Answers.{IsAnswer}
use Rattle.dg_volume.proofs.CutLaws.{cut_rule}
use Rattle.dg_volume.proofs.cut_reads.cut_cat.Goals as goal

pub returns-clause-rule : goal.returns-clause-rule
returns-clause-rule g c =
    cut_rule g.R.Rack (λ P. IsAnswer g.O.Pieces.took g.O.Pieces.took_part g.O.Pieces.faults c.args.out.now c.read_file.new.out P c.read_file.result.0)
    c.args.in_use.now.cut.items c.new-view.result.cut.now c.read_file.new.view.cut.now c.args.store.now c.new-view.result.view.now c.store-1.given.0 c.read_file.new.view.view.now
    (λ l n. cat_of l n c.args.path.now) (search rules) (search rules) (c.new-view.ensures.cut ∙ c.deref.ensures.value) c.read_file.ensures.keeps.goes.1 c.read_file.ensures.rule
