use Rattle.std.proofs.Common.{◌≡◌, ◌<◌, ◌≤◌, arith, rules, subst, sym}
use Rattle.dg_io.specs.ViewWords.{Reads}
use Rattle.ufs_model.specs.Trees.{tree_of}
use Rattle.ufs_path.proofs.BranchLaws.{on_err}
use Rattle.ufs_path.proofs.MarkedLaws.{marked_answer, marked_later, marked_same, marked_stays, marked_unread, marked_wanted}
use Rattle.ufs_path.specs.Answers.{IsAnswer}
use Rattle.ufs_path.specs.Consults.{StaysUnlessFailed}
use Rattle.ufs_path.specs.PathLists.{ReadsMarked}
use Rattle.ufs_path.specs.declared.faults.CatAnswer.{CatAnswer}
use Rattle.ufs_path.proofs.marked_paths.list_into.Goals as goal

-- ---- the listing wanted memory

pub returns-in_err-answer-clause-part : goal.returns-in_err-answer-clause-part
returns-in_err-answer-clause-part g c =
    let reads = Reads g.V.View c.args.view.now c.tree.new.view (tree_of (g.V.View.size c.args.view.now) (g.V.View.count c.args.view.now)) in
    let wanted = marked_unread g.O.PathList.took g.O.PathList.took_part g.O.PathList.faults c.args.paths.now.marks.now c.args.paths.now.out.now c.args.paths.now c.tree.new.out c.requires.begun reads c.in_err-answer.ensures.part in
    on_err c.from_residual.result wanted.part

pub returns-in_err-answer-clause-err_faults : goal.returns-in_err-answer-clause-err_faults
returns-in_err-answer-clause-err_faults g c =
    let reads = Reads g.V.View c.args.view.now c.tree.new.view (tree_of (g.V.View.size c.args.view.now) (g.V.View.count c.args.view.now)) in
    let wanted = marked_unread g.O.PathList.took g.O.PathList.took_part g.O.PathList.faults c.args.paths.now.marks.now c.args.paths.now.out.now c.args.paths.now c.tree.new.out c.requires.begun reads c.in_err-answer.ensures.part in
    on_err c.from_residual.result wanted.still

pub returns-in_err-answer-clause-later : goal.returns-in_err-answer-clause-later
returns-in_err-answer-clause-later g c =
    let reads = Reads g.V.View c.args.view.now c.tree.new.view (tree_of (g.V.View.size c.args.view.now) (g.V.View.count c.args.view.now)) in
    let wanted = marked_unread g.O.PathList.took g.O.PathList.took_part g.O.PathList.faults c.args.paths.now.marks.now c.args.paths.now.out.now c.args.paths.now c.tree.new.out c.requires.begun reads c.in_err-answer.ensures.part in
    let low : g.O.PathList.faults c.args.paths.now.out.now ≤ g.O.PathList.faults c.tree.new.out.out.now = let still = wanted.still in omega (arith, still) in
    low

-- ---- the paths did

pub returns-then-paths-gt0-clause-part : goal.returns-then-paths-gt0-clause-part
returns-then-paths-gt0-clause-part g c =
    let reads = Reads g.V.View c.args.view.now c.tree.new.view (tree_of (g.V.View.size c.args.view.now) (g.V.View.count c.args.view.now)) in
    let some : 0 < c.tree.new.out.wants = search rules in
    let wanted = marked_wanted g.O.PathList.took g.O.PathList.took_part g.O.PathList.faults c.args.paths.now.marks.now c.args.paths.now.out.now c.args.paths.now c.tree.new.out c.requires.begun reads c.in_ok-answer.answer c.in_ok-answer.ensures.rule some in
    wanted.part

pub returns-then-paths-gt0-clause-err_faults : goal.returns-then-paths-gt0-clause-err_faults
returns-then-paths-gt0-clause-err_faults g c =
    let reads = Reads g.V.View c.args.view.now c.tree.new.view (tree_of (g.V.View.size c.args.view.now) (g.V.View.count c.args.view.now)) in
    let some : 0 < c.tree.new.out.wants = search rules in
    let wanted = marked_wanted g.O.PathList.took g.O.PathList.took_part g.O.PathList.faults c.args.paths.now.marks.now c.args.paths.now.out.now c.args.paths.now c.tree.new.out c.requires.begun reads c.in_ok-answer.answer c.in_ok-answer.ensures.rule some in
    wanted.still

pub returns-then-paths-gt0-clause-later : goal.returns-then-paths-gt0-clause-later
returns-then-paths-gt0-clause-later g c =
    let reads = Reads g.V.View c.args.view.now c.tree.new.view (tree_of (g.V.View.size c.args.view.now) (g.V.View.count c.args.view.now)) in
    let some : 0 < c.tree.new.out.wants = search rules in
    let wanted = marked_wanted g.O.PathList.took g.O.PathList.took_part g.O.PathList.faults c.args.paths.now.marks.now c.args.paths.now.out.now c.args.paths.now c.tree.new.out c.requires.begun reads c.in_ok-answer.answer c.in_ok-answer.ensures.rule some in
    let low : g.O.PathList.faults c.args.paths.now.out.now ≤ g.O.PathList.faults c.tree.new.out.out.now = let still = wanted.still in omega (arith, still) in
    low

-- ---- an answer

pub returns-clause-rule : goal.returns-clause-rule
returns-clause-rule g c =
    let reads = Reads g.V.View c.args.view.now c.tree.new.view (tree_of (g.V.View.size c.args.view.now) (g.V.View.count c.args.view.now)) in
    let none : c.tree.new.out.wants ≡ 0 = search rules in
    let told = subst (λ (t : CatAnswer). IsAnswer g.O.PathList.took g.O.PathList.took_part g.O.PathList.faults c.args.paths.now.out.now c.tree.new.out.out.now (ReadsMarked reads c.args.paths.now.marks.now) t) (sym c.told_of.ensures)
    (marked_answer g.O.PathList.took g.O.PathList.took_part g.O.PathList.faults c.args.paths.now.marks.now c.args.paths.now.out.now c.args.paths.now c.tree.new.out c.requires.begun reads c.in_ok-answer.answer c.in_ok-answer.ensures.rule none) in
    told

pub returns-clause-stays : goal.returns-clause-stays
returns-clause-stays g c =
    let reads = Reads g.V.View c.args.view.now c.tree.new.view (tree_of (g.V.View.size c.args.view.now) (g.V.View.count c.args.view.now)) in
    let none : c.tree.new.out.wants ≡ 0 = search rules in
    let told = subst (λ (t : CatAnswer). StaysUnlessFailed t (g.O.PathList.faults c.args.paths.now.out.now) (g.O.PathList.faults c.tree.new.out.out.now)) (sym c.told_of.ensures)
    (marked_stays g.O.PathList.took g.O.PathList.took_part g.O.PathList.faults c.args.paths.now.marks.now c.args.paths.now.out.now c.args.paths.now c.tree.new.out c.requires.begun reads c.in_ok-answer.answer c.in_ok-answer.ensures.rule none c.in_ok-answer.ensures.stays) in
    told

pub returns-clause-later : goal.returns-clause-later
returns-clause-later g c =
    let reads = Reads g.V.View c.args.view.now c.tree.new.view (tree_of (g.V.View.size c.args.view.now) (g.V.View.count c.args.view.now)) in
    let none : c.tree.new.out.wants ≡ 0 = search rules in
    let low = marked_later g.O.PathList.took g.O.PathList.took_part g.O.PathList.faults c.args.paths.now.marks.now c.args.paths.now.out.now c.args.paths.now c.tree.new.out c.requires.begun reads c.tree.ensures.later none in
    low

-- ---- the receiver is the one that was lent

pub returns-in_err-answer-clause-same : goal.returns-in_err-answer-clause-same
returns-in_err-answer-clause-same g c =
    let reads = Reads g.V.View c.args.view.now c.tree.new.view (tree_of (g.V.View.size c.args.view.now) (g.V.View.count c.args.view.now)) in
    let wanted = marked_unread g.O.PathList.took g.O.PathList.took_part g.O.PathList.faults c.args.paths.now.marks.now c.args.paths.now.out.now c.args.paths.now c.tree.new.out c.requires.begun reads c.in_err-answer.ensures.part in
    wanted.same

pub returns-then-paths-gt0-clause-same : goal.returns-then-paths-gt0-clause-same
returns-then-paths-gt0-clause-same g c =
    let reads = Reads g.V.View c.args.view.now c.tree.new.view (tree_of (g.V.View.size c.args.view.now) (g.V.View.count c.args.view.now)) in
    marked_same g.O.PathList.took g.O.PathList.took_part g.O.PathList.faults c.args.paths.now.marks.now c.args.paths.now.out.now c.args.paths.now c.tree.new.out c.requires.begun reads c.in_ok-answer.answer c.in_ok-answer.ensures.rule

pub returns-clause-same : goal.returns-clause-same
returns-clause-same g c =
    let reads = Reads g.V.View c.args.view.now c.tree.new.view (tree_of (g.V.View.size c.args.view.now) (g.V.View.count c.args.view.now)) in
    marked_same g.O.PathList.took g.O.PathList.took_part g.O.PathList.faults c.args.paths.now.marks.now c.args.paths.now.out.now c.args.paths.now c.tree.new.out c.requires.begun reads c.in_ok-answer.answer c.in_ok-answer.ensures.rule
