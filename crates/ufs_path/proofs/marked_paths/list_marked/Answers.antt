use Rattle.std.proofs.Common.{◌≡◌, ◌≤◌, Bool, List, rules, subst}
use Rattle.std.specs.Prelude.{IfOk, OnErr}
use Rattle.dg_io.specs.ViewWords.{Reads}
use Rattle.ufs_model.specs.Trees.{tree_of}
use Rattle.ufs_path.specs.Answers.{IsAnswer}
use Rattle.ufs_path.specs.Consults.{StaysUnlessFailed}
use Rattle.ufs_path.specs.PathLists.{HandsPaths, ReadsMarked}
use Rattle.ufs_path.proofs.marked_paths.list_marked.Goals as goal

pub returns-clause-rule : goal.returns-clause-rule
returns-clause-rule g c =
    let reads = Reads g.V.View c.args.view.now c.list_into.new.view (tree_of (g.V.View.size c.args.view.now) (g.V.View.count c.args.view.now)) in
    let from = subst (λ o. IfOk c.list_into.result (IsAnswer g.O.PathList.took g.O.PathList.took_part g.O.PathList.faults o c.list_into.new.paths.out.now (ReadsMarked reads c.new-paths.result.marks.now)))
    c.new-paths.ensures.begun.out_is c.list_into.ensures.rule in
    let by = subst (λ (m : List Bool). IfOk c.list_into.result (IsAnswer g.O.PathList.took g.O.PathList.took_part g.O.PathList.faults c.args.out.now c.list_into.new.paths.out.now (ReadsMarked reads m)))
    c.new-paths.ensures.begun.marks_are from in
    subst (λ k. IfOk c.list_into.result (IsAnswer g.O.PathList.took g.O.PathList.took_part g.O.PathList.faults c.args.out.now k (ReadsMarked reads c.args.marks.now))) (search rules) by

pub returns-clause-part : goal.returns-clause-part
returns-clause-part g c =
    let reads = Reads g.V.View c.args.view.now c.list_into.new.view (tree_of (g.V.View.size c.args.view.now) (g.V.View.count c.args.view.now)) in
    let from = subst (λ o. OnErr c.list_into.result (HandsPaths g.O.PathList.took o c.list_into.new.paths.out.now (ReadsMarked reads c.new-paths.result.marks.now)))
    c.new-paths.ensures.begun.out_is c.list_into.ensures.part in
    let by = subst (λ (m : List Bool). OnErr c.list_into.result (HandsPaths g.O.PathList.took c.args.out.now c.list_into.new.paths.out.now (ReadsMarked reads m)))
    c.new-paths.ensures.begun.marks_are from in
    subst (λ k. OnErr c.list_into.result (HandsPaths g.O.PathList.took c.args.out.now k (ReadsMarked reads c.args.marks.now))) (search rules) by

pub returns-clause-err_faults : goal.returns-clause-err_faults
returns-clause-err_faults g c =
    let from = subst (λ o. OnErr c.list_into.result (g.O.PathList.faults c.list_into.new.paths.out.now ≡ g.O.PathList.faults o)) c.new-paths.ensures.begun.out_is c.list_into.ensures.err_faults in
    subst (λ k. OnErr c.list_into.result (g.O.PathList.faults k ≡ g.O.PathList.faults c.args.out.now)) (search rules) from

pub returns-clause-later : goal.returns-clause-later
returns-clause-later g c =
    let from = subst (λ o. g.O.PathList.faults o ≤ g.O.PathList.faults c.list_into.new.paths.out.now) c.new-paths.ensures.begun.out_is c.list_into.ensures.later in
    subst (λ k. g.O.PathList.faults c.args.out.now ≤ g.O.PathList.faults k) (search rules) from

pub returns-clause-stays : goal.returns-clause-stays
returns-clause-stays g c =
    let from = subst (λ o. IfOk c.list_into.result (λ answer. StaysUnlessFailed answer (g.O.PathList.faults o) (g.O.PathList.faults c.list_into.new.paths.out.now))) c.new-paths.ensures.begun.out_is c.list_into.ensures.stays in
    subst (λ k. IfOk c.list_into.result (λ answer. StaysUnlessFailed answer (g.O.PathList.faults c.args.out.now) (g.O.PathList.faults k))) (search rules) from
