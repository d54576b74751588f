use Rattle.std.proofs.Common.{◌++◌, ◌∙◌, [], suc, add-one, ap, arith, map, sym}
use Rattle.dg_io.specs.ViewLaws.{keeps_both, keeps_same}
use Rattle.ufs_model.specs.Paths.{chunks_in}
use Rattle.ufs_path.proofs.BranchLaws.{branches_both, err_unread}
use Rattle.ufs_path.proofs.ConsultLaws.{consults_along, consults_both, consults_none}
use Rattle.ufs_path.proofs.EntryLaws.{entry_fronts}
use Rattle.ufs_path.proofs.NeedLaws.{part_needed}
use Rattle.ufs_path.proofs.PartLaws.{front_fails, front_fails_whole, front_more, front_none}
use Rattle.ufs_path.proofs.ReadsLaws.{wider}
use Rattle.ufs_path.specs.Answers.{refusal_of}
use Rattle.ufs_path.specs.Trees.{branch_of, branches_at}
use Rattle.ufs_path.specs.Walks.{entries_among}
use Rattle.ufs_path.proofs.branches.read_branches.Goals as goal

pub loop-n-init : goal.loop-n-init
loop-n-init g c = record {
  keeps = keeps_same c.args.view.now c.requires.sound (g.met.V.View.unchanged c.args.view.now);
  levels = c.requires.levels;
  reads = ([], ap (map branch_of) c.new-kept.ensures.items, front_none (entry_fronts c.args.g.now c.args.inode.now));
  consulted = consults_none g.V.View c.args.view.now _ _ (g.met.V.View.fetched_none c.args.view.now) (λ h. h);
}

pub returns-in-Err-clause-found : goal.returns-in-Err-clause-found
returns-in-Err-clause-found g c =
    let so_far = c.loop-n.invariant.keeps in
    let block = c.read_entries.ensures.keeps in
    let fronts = entry_fronts c.args.g.now c.args.inode.now in
    front_fails_whole fronts (suc c.loop-n.n) c.args.count (refusal_of c.in-Err.fault) (λ b h. block.stays b (so_far.stays b h)) (omega arith)
    (front_fails fronts c.loop-n.n _ (refusal_of c.in-Err.fault) (λ b h. block.stays b (so_far.stays b h))
    (wider _ (λ b h. h) block.stays (λ v h. h) block.told (c.loop-n.invariant.reads.2))
    (wider _ so_far.stays (λ b h. h) so_far.stands (λ h. h) c.in-Err.ensures.rule))

pub loop-n-preserved : goal.loop-n-preserved
loop-n-preserved g c =
    let so_far = c.loop-n.invariant.keeps in
    let block = c.read_entries.ensures.keeps in
    let depth = c.args.depth in
    let before = c.loop-n.invariant.reads.0 in
    let more = entries_among c.args.g.now.endian (chunks_in c.in-Ok.chunks c.read_entries.new.levels.block) in record {
      keeps = keeps_both g.met.V.View.further c.args.view.now c.loop-n.view c.read_entries.new.view so_far block;
      levels = c.read_entries.ensures.levels ∙ c.loop-n.invariant.levels;
      reads = (
        before ++ more,
        (rw c.block.ensures at c.in_ok-push_chunks-in-Ok.ensures) ∙ ap (λ bs. bs ++ branches_at depth more) (c.loop-n.invariant.reads.1) ∙ sym (branches_both depth before more),
        rw add-one (front_more (entry_fronts c.args.g.now c.args.inode.now) c.loop-n.n _ _
            (wider _ (λ b h. h) block.stays (λ v h. h) block.told (c.loop-n.invariant.reads.2))
            (wider _ so_far.stays (λ b h. h) so_far.stands (λ h. h) c.in-Ok.ensures.rule)),
      );
      consulted = consults_both g.V.View g.met.V.View.fetched_both so_far block (λ is v holds. (so_far.stands v holds, λ b h. part_needed (entry_fronts c.args.g.now c.args.inode.now) c.loop-n.n c.args.count before v b c.loop-n-test.true ((c.loop-n.invariant.reads.2.rule (block.told is) v holds).answer) h)) (λ h. absurd h) c.loop-n.invariant.consulted c.read_entries.ensures.consults;
    }

pub returns-in_err-push_chunks-in-Ok-clause-consults : goal.returns-in_err-push_chunks-in-Ok-clause-consults
returns-in_err-push_chunks-in-Ok-clause-consults g c =
    let so_far = c.loop-n.invariant.keeps in
    let block = c.read_entries.ensures.keeps in
    consults_both g.V.View g.met.V.View.fetched_both so_far block (λ is v holds. (so_far.stands v holds, λ b h. part_needed (entry_fronts c.args.g.now c.args.inode.now) c.loop-n.n c.args.count (c.loop-n.invariant.reads.0) v b c.loop-n-test.true ((c.loop-n.invariant.reads.2.rule (block.told is) v holds).answer) h)) (λ h. absurd (err_unread c.from_residual.result c.from_residual.ensures.0 h)) c.loop-n.invariant.consulted c.read_entries.ensures.consults

pub returns-in-Err-clause-consults : goal.returns-in-Err-clause-consults
returns-in-Err-clause-consults g c =
    let so_far = c.loop-n.invariant.keeps in
    let block = c.read_entries.ensures.keeps in
    consults_both g.V.View g.met.V.View.fetched_both so_far block (λ is v holds. (so_far.stands v holds, λ b h. part_needed (entry_fronts c.args.g.now c.args.inode.now) c.loop-n.n c.args.count (c.loop-n.invariant.reads.0) v b c.loop-n-test.true ((c.loop-n.invariant.reads.2.rule (block.told is) v holds).answer) h)) (λ h. h) c.loop-n.invariant.consulted c.in-Err.ensures.consults

pub returns-clause-consults : goal.returns-clause-consults
returns-clause-consults g c = consults_along g.V.View (λ is v holds. (holds, λ b h. h)) (λ h. absurd h) c.loop-n.invariant.consulted
