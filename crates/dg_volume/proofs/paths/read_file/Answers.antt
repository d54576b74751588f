use Rattle.ufs_model.specs.Paths.{cat_of, look_of}
use Rattle.ufs_model.specs.Readings.{ReadsAs}
use Rattle.dg_volume.proofs.FileAnswers.{at_fault, file_told, map_answer}
use Rattle.dg_volume.proofs.FileLaws.{cat_follows, cat_last, reads_first}
use Rattle.ufs_path.specs.Answers.{refusal_of}
use Rattle.dg_volume.proofs.paths.read_file.Goals as goal

pub returns-in-Ok-clause-rule : goal.returns-in-Ok-clause-rule
returns-in-Ok-clause-rule g c =
    let first = c.look.ensures.keeps in
    map_answer g.O.Pieces.took g.O.Pieces.took_part g.O.Pieces.faults c.args.out.now c.cat-answer.new.out
    {one = (ReadsAs (g.V.View.stands_for c.look.new.view) (g.V.View.is_gone c.look.new.view) (g.V.View.tells c.cat-answer.new.view) (g.V.View.is_gone c.cat-answer.new.view) (cat_of (g.V.View.size c.look.new.view) (g.V.View.count c.look.new.view) c.args.path.now))}
    {two = (ReadsAs (g.V.View.stands_for c.args.view.now) (g.V.View.is_gone c.args.view.now) (g.V.View.tells c.cat-answer.new.view) (g.V.View.is_gone c.cat-answer.new.view) (cat_of (g.V.View.size c.args.view.now) (g.V.View.count c.args.view.now) c.args.path.now))}
    c.cat-answer.result
    (λ r reads. cat_last (g.V.View.size c.args.view.now) (g.V.View.count c.args.view.now) _ _ c.args.path.now r first.bytes first.blocks first.stays first.stands reads)
    c.cat-answer.ensures.rule

pub returns-in-Err-clause-rule : goal.returns-in-Err-clause-rule
returns-in-Err-clause-rule g c =
    rw c.fault_answer.ensures
    (at_fault g.O.Pieces.took g.O.Pieces.took_part g.O.Pieces.faults c.args.out.now
    (ReadsAs (g.V.View.stands_for c.args.view.now) (g.V.View.is_gone c.args.view.now) (g.V.View.tells c.look.new.view) (g.V.View.is_gone c.look.new.view)
    (cat_of (g.V.View.size c.args.view.now) (g.V.View.count c.args.view.now) c.args.path.now))
    c.in-Err.fault
    (reads_first _ _ _ _ (look_of (g.V.View.size c.args.view.now) (g.V.View.count c.args.view.now) c.args.path.now) (cat_of (g.V.View.size c.args.view.now) (g.V.View.count c.args.view.now) c.args.path.now)
    (λ v. cat_follows (g.V.View.size c.args.view.now) (g.V.View.count c.args.view.now) c.args.path.now v) (refusal_of c.in-Err.fault) c.in-Err.ensures.rule))

pub returns-in-Ok-clause-inode : goal.returns-in-Ok-clause-inode
returns-in-Ok-clause-inode g c =
    let rule = returns-in-Ok-clause-rule g c in
    file_told (g.V.View.stands_for c.args.view.now) (g.V.View.tells c.look.new.view) (g.V.View.tells c.cat-answer.new.view)
    (g.V.View.size c.args.view.now) (g.V.View.count c.args.view.now) c.args.path.now c.cat-answer.ensures.keeps.told
    g.O.Pieces.took g.O.Pieces.took_part g.O.Pieces.faults c.args.out.now c.cat-answer.new.out (g.V.View.is_gone c.args.view.now) (g.V.View.is_gone c.cat-answer.new.view)
    c.in-Ok.found c.args.before c.inode_told.result c.cat-answer.result c.in-Ok.ensures.rule rule c.inode_told.ensures
