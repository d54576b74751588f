use Rattle.std.proofs.Common.{◌++◌, ◌∙◌, [], suc, take, add-one, arith}
use Rattle.dg_io.specs.ViewLaws.{keeps_both, keeps_same}
use Rattle.ufs_path.proofs.FileLaws.{file_fronts}
use Rattle.ufs_path.proofs.PartLaws.{front_fails, front_fails_whole, front_more, front_none}
use Rattle.ufs_path.proofs.ReadsLaws.{wider}
use Rattle.ufs_path.specs.Answers.{refusal_of}
use Rattle.ufs_path.proofs.ConsultLaws.{consults_along, consults_both, consults_none}
use Rattle.ufs_path.proofs.NeedLaws.{part_needed}
use Rattle.ufs_path.proofs.files.consult.Goals as goal

pub loop-n-init : goal.loop-n-init
loop-n-init g c = record {
  keeps = keeps_same c.args.view.now c.requires.sound (g.met.V.View.unchanged c.args.view.now);
  levels = c.requires.levels;
  reads = ([], front_none (file_fronts c.args.g.now c.args.inode.now));
  consulted = consults_none g.V.View c.args.view.now _ _ (g.met.V.View.fetched_none c.args.view.now) (λ h. h);
}

pub returns-in-Err-clause-err : goal.returns-in-Err-clause-err
returns-in-Err-clause-err g c =
    let so_far = c.loop-n.invariant.keeps in
    let part = c.read_part.ensures.keeps in
    let fronts = file_fronts c.args.g.now c.args.inode.now in
    front_fails_whole fronts (suc c.loop-n.n) c.args.count (refusal_of c.in-Err.fault) (λ b h. part.stays b (so_far.stays b h)) (omega arith)
    (front_fails fronts c.loop-n.n _ (refusal_of c.in-Err.fault) (λ b h. part.stays b (so_far.stays b h))
    (wider _ (λ b h. h) part.stays (λ v h. h) part.told (c.loop-n.invariant.reads.1))
    (wider _ so_far.stays (λ b h. h) so_far.stands (λ h. h) c.in-Err.ensures.rule))

pub loop-n-preserved : goal.loop-n-preserved
loop-n-preserved g c =
    let so_far = c.loop-n.invariant.keeps in
    let part = c.read_part.ensures.keeps in record {
      keeps = keeps_both g.met.V.View.further c.args.view.now c.loop-n.view c.read_part.new.view so_far part;
      levels = c.read_part.ensures.levels ∙ c.loop-n.invariant.levels;
      reads = (
        c.loop-n.invariant.reads.0 ++ take c.in-Ok.field-0 c.read_part.new.levels.block,
        rw add-one (front_more (file_fronts c.args.g.now c.args.inode.now) c.loop-n.n _ _
            (wider _ (λ b h. h) part.stays (λ v h. h) part.told (c.loop-n.invariant.reads.1))
            (wider _ so_far.stays (λ b h. h) so_far.stands (λ h. h) c.in-Ok.ensures.rule)),
      );
      consulted = consults_both g.V.View g.met.V.View.fetched_both so_far part (λ is v holds. (so_far.stands v holds, λ b h. part_needed (file_fronts c.args.g.now c.args.inode.now) c.loop-n.n c.args.count (c.loop-n.invariant.reads.0) v b c.loop-n-test.true ((c.loop-n.invariant.reads.1.rule (part.told is) v holds).answer) h)) (λ h. absurd h) c.loop-n.invariant.consulted c.read_part.ensures.consults;
    }

pub returns-in-Err-clause-consults : goal.returns-in-Err-clause-consults
returns-in-Err-clause-consults g c =
    let so_far = c.loop-n.invariant.keeps in
    let part = c.read_part.ensures.keeps in
    consults_both g.V.View g.met.V.View.fetched_both so_far part (λ is v holds. (so_far.stands v holds, λ b h. part_needed (file_fronts c.args.g.now c.args.inode.now) c.loop-n.n c.args.count (c.loop-n.invariant.reads.0) v b c.loop-n-test.true ((c.loop-n.invariant.reads.1.rule (part.told is) v holds).answer) h)) (λ h. h) c.loop-n.invariant.consulted c.in-Err.ensures.consults

pub returns-clause-consults : goal.returns-clause-consults
returns-clause-consults g c = consults_along g.V.View (λ is v holds. (holds, λ b h. h)) (λ h. absurd h) c.loop-n.invariant.consulted
