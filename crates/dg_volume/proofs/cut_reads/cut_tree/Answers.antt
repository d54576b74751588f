use Rattle.std.proofs.Common.{◌∙◌, rules}
use Rattle.std.specs.Prelude.{IfOk, OnErr}
use Rattle.ufs_model.specs.Trees.{tree_of}
use Rattle.ufs_path.specs.Answers.{IsAnswer}
use Rattle.ufs_path.specs.Trees.{HandsSome}
use Rattle.dg_volume.proofs.CutLaws.{cut_rule}
use Rattle.dg_volume.proofs.cut_reads.cut_tree.Goals as goal

pub returns-clause-rule : goal.returns-clause-rule
returns-clause-rule g c =
    cut_rule g.R.Rack (λ P. IfOk c.tree.result (IsAnswer g.O.Listing.took g.O.Listing.took_part g.O.Listing.faults c.args.out.now c.tree.new.out P))
    c.args.in_use.now.cut.items c.new-view.result.cut.now c.tree.new.view.cut.now c.args.store.now c.new-view.result.view.now c.store-1.given.0 c.tree.new.view.view.now
    (λ l n. tree_of l n) (search rules) (search rules) (c.new-view.ensures.cut ∙ c.deref.ensures.value) c.tree.ensures.keeps.goes.1 c.tree.ensures.rule

pub returns-clause-part : goal.returns-clause-part
returns-clause-part g c =
    cut_rule g.R.Rack (λ P. OnErr c.tree.result (HandsSome g.O.Listing.took c.args.out.now c.tree.new.out P))
    c.args.in_use.now.cut.items c.new-view.result.cut.now c.tree.new.view.cut.now c.args.store.now c.new-view.result.view.now c.store-1.given.0 c.tree.new.view.view.now
    (λ l n. tree_of l n) (search rules) (search rules) (c.new-view.ensures.cut ∙ c.deref.ensures.value) c.tree.ensures.keeps.goes.1 c.tree.ensures.part
