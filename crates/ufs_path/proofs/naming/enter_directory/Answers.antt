use Rattle.std.proofs.Common.{◌∙◌, Bool, Some, true, false, ap}
use Rattle.ufs_path.proofs.AnsweredLaws.{at_some, map_ok}
use Rattle.ufs_path.proofs.ConsultLaws.{consults_both}
use Rattle.ufs_path.proofs.InodeLaws.{enters_nothing, enters_sound}
use Rattle.ufs_path.specs.Parents.{kept_in}
use Rattle.ufs_path.proofs.naming.enter_directory.Goals as goal

pub returns-in-Some-true-clause-found : goal.returns-in-Some-true-clause-found
returns-in-Some-true-clause-found g c =
    let first = c.judge_blocks.ensures.keeps in
    map_ok c.enter_blocks.result _ _
    (λ (could : Bool) h yes is v holds known.
    let judged = (at_some c.in_ok-judge_blocks.field-0 _ true (c.in-Some-true.is ∙ ap Some c.in-Some-true.field-0-test) c.in_ok-judge_blocks.ensures.found)
    (c.enter_blocks.ensures.keeps.told is) v holds (kept_in c.args.table.now.directories) known in
    enters_sound c.args.g.now v c.args.i _ (record { runs = c.judge_blocks.new.runs; directories = c.args.table.now.directories }) c.enter_blocks.new.table judged.1
    (h yes is v (first.stands v holds)) judged.0)
    c.enter_blocks.ensures.found

pub returns-in-Some-true-clause-consults : goal.returns-in-Some-true-clause-consults
returns-in-Some-true-clause-consults g c =
    let first = c.judge_blocks.ensures.keeps in
    consults_both g.V.View g.met.V.View.fetched_both first c.enter_blocks.ensures.keeps
    (λ is v holds. (first.stands v holds, λ b h. h)) (λ h. h) c.judge_blocks.ensures.consults c.enter_blocks.ensures.consults

pub returns-in-Some-false-clause-found : goal.returns-in-Some-false-clause-found
returns-in-Some-false-clause-found g c = λ _ is v holds known.
    let kept = kept_in c.args.table.now.directories in
    let judged = (at_some c.in_ok-judge_blocks.field-0 _ false (c.in-Some-false.is ∙ ap Some c.in-Some-false.field-0-test) c.in_ok-judge_blocks.ensures.found) is v holds kept known in
    (judged.0, enters_nothing c.args.i _ kept judged.1)
