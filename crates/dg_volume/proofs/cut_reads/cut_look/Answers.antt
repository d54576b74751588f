use Rattle.std.proofs.Common.{◌∙◌, rules}
use Rattle.ufs_model.specs.Paths.{look_of}
use Rattle.ufs_model.specs.Readings.{answered}
use Rattle.ufs_path.specs.Answers.{refusal_of}
use Rattle.dg_volume.proofs.CutLaws.{cut_rule}
use Rattle.dg_volume.proofs.cut_reads.cut_look.Goals as goal

pub returns-clause-rule : goal.returns-clause-rule
returns-clause-rule g c =
    cut_rule g.R.Rack (λ P. P (answered refusal_of c.look.result))
    c.args.in_use.now.cut.items c.new-view.result.cut.now c.look.new.view.cut.now c.args.store.now c.new-view.result.view.now c.store-1.given.0 c.look.new.view.view.now
    (λ l n. look_of l n c.args.path.now) (search rules) (search rules) (c.new-view.ensures.cut ∙ c.deref.ensures.value) c.look.ensures.keeps.goes.1 c.look.ensures.rule
