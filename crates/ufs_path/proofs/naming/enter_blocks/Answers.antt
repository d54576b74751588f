use Rattle.std.proofs.Common.{◌≡◌, ◌∙◌, ◌+◌, ◌<◌, arith, sym, ap, refl, subst, Ok, false, ℕ}
use Rattle.dg_io.specs.ViewLaws.{keeps_both, keeps_same}
use Rattle.ufs_model.specs.Inodes.{block_count}
use Rattle.ufs_model.specs.Paths.{entries_before}
use Rattle.ufs_path.proofs.AnsweredLaws.{not_ok}
use Rattle.ufs_path.proofs.ConsultLaws.{consults_both, consults_none}
use Rattle.ufs_path.proofs.NamingLaws.{enters_both, nothing_entered}
use Rattle.ufs_path.proofs.RunLaws.{splits}
use Rattle.ufs_path.proofs.naming.enter_blocks.Goals as goal

pub loop-n-init : goal.loop-n-init
loop-n-init g c = record {
  keeps = keeps_same c.args.view.now c.requires.sound (g.met.V.View.unchanged c.args.view.now);
  levels = c.requires.levels;
  entered = λ is v holds entries said. nothing_entered c.args.g.now c.args.inode.now v c.args.i entries c.args.table.now said;
  consulted = consults_none g.V.View c.args.view.now _ _ (g.met.V.View.fetched_none c.args.view.now) (λ h. h);
}

pub returns-in_err-enter_block-clause-consults : goal.returns-in_err-enter_block-clause-consults
returns-in_err-enter_block-clause-consults g c =
    let so_far = c.loop-n.invariant.keeps in
    consults_both g.V.View g.met.V.View.fetched_both so_far c.enter_block.ensures.keeps
    (λ is v holds. (so_far.stands v holds, λ b h. (c.loop-n.n, subst (λ (k : ℕ). c.loop-n.n < k) c.block_count-n-end.ensures.value c.loop-n-test.true, h)))
    (λ h. absurd (not_ok c.from_residual.result false c.from_residual.ensures.0 h)) c.loop-n.invariant.consulted c.enter_block.ensures.consults

pub returns-then-not-branch-clause-consults : goal.returns-then-not-branch-clause-consults
returns-then-not-branch-clause-consults g c =
    let so_far = c.loop-n.invariant.keeps in
    consults_both g.V.View g.met.V.View.fetched_both so_far c.enter_block.ensures.keeps
    (λ is v holds. (so_far.stands v holds, λ b h. (c.loop-n.n, subst (λ (k : ℕ). c.loop-n.n < k) c.block_count-n-end.ensures.value c.loop-n-test.true, h)))
    (λ h. ap Ok c.if-not-branch.true) c.loop-n.invariant.consulted c.in_ok-enter_block.ensures.consults

pub loop-n-preserved : goal.loop-n-preserved
loop-n-preserved g c =
    let so_far = c.loop-n.invariant.keeps in
    let step = c.enter_block.ensures.keeps in
    let G = c.args.g.now in
    let I = c.args.inode.now in record {
      keeps = keeps_both g.met.V.View.further c.args.view.now c.loop-n.view c.enter_block.new.view so_far step;
      levels = c.enter_block.ensures.levels ∙ c.loop-n.invariant.levels;
      entered = λ is v holds entries said.
          let parts = splits G I c.loop-n.n (c.loop-n.n + 1) v entries refl said in
          enters_both G v c.args.i (parts.front) (parts.last) entries c.args.table.now c.loop-n.table c.enter_block.new.table parts.whole
          (c.loop-n.invariant.entered (step.told is) v holds (parts.front) parts.front_is)
          (c.in_ok-enter_block.ensures.found c.if-not-branch.false is v (so_far.stands v holds) (parts.last) parts.last_is);
      consulted = consults_both g.V.View g.met.V.View.fetched_both so_far step
          (λ is v holds. (so_far.stands v holds, λ b h. (c.loop-n.n, subst (λ (k : ℕ). c.loop-n.n < k) c.block_count-n-end.ensures.value c.loop-n-test.true, h)))
          (λ h. absurd h) c.loop-n.invariant.consulted c.enter_block.ensures.consults;
    }

pub returns-clause-found : goal.returns-clause-found
returns-clause-found g c = λ _ is v holds entries said.
    let ended : block_count c.args.g.now c.args.inode.now ≡ c.loop-n.n = omega (arith, c.loop-n-test.false, c.loop-n.auto.n-end, c.block_count-n-end.ensures.value) in
    c.loop-n.invariant.entered is v holds entries (sym (ap (λ (k : ℕ). (entries_before c.args.g.now c.args.inode.now k v).value) ended) ∙ said)
