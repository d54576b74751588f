use Rattle.std.proofs.Common.{◌∙◌, rules}
use Rattle.std.specs.Prelude.{IfOk, OnErr}
use Rattle.ufs_model.specs.Trees.{tree_of}
use Rattle.ufs_path.specs.Answers.{IsAnswer}
use Rattle.ufs_path.specs.PathLists.{HandsPaths, ReadsMarked}
use Rattle.dg_volume.proofs.CutLaws.{cut_rule}
use Rattle.dg_volume.proofs.lost_files.cut_marked.Goals as goal

pub returns-clause-rule : goal.returns-clause-rule
returns-clause-rule g c =
    cut_rule g.R.Rack (λ P. IfOk c.list_marked.result (IsAnswer g.O.PathList.took g.O.PathList.took_part g.O.PathList.faults c.args.out.now c.list_marked.new.out (ReadsMarked P c.args.marks.now)))
    c.args.in_use.now.cut.items c.new-view.result.cut.now c.list_marked.new.view.cut.now c.args.store.now c.new-view.result.view.now c.store-1.given.0 c.list_marked.new.view.view.now
    (λ l n. tree_of l n) (search rules) (search rules) (c.new-view.ensures.cut ∙ c.deref.ensures.value) c.list_marked.ensures.keeps.goes.1 c.list_marked.ensures.rule

pub returns-clause-part : goal.returns-clause-part
returns-clause-part g c =
    cut_rule g.R.Rack (λ P. OnErr c.list_marked.result (HandsPaths g.O.PathList.took c.args.out.now c.list_marked.new.out (ReadsMarked P c.args.marks.now)))
    c.args.in_use.now.cut.items c.new-view.result.cut.now c.list_marked.new.view.cut.now c.args.store.now c.new-view.result.view.now c.store-1.given.0 c.list_marked.new.view.view.now
    (λ l n. tree_of l n) (search rules) (search rules) (c.new-view.ensures.cut ∙ c.deref.ensures.value) c.list_marked.ensures.keeps.goes.1 c.list_marked.ensures.part
