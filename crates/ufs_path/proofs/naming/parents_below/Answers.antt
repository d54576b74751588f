use Rattle.std.proofs.Common.{◌∙◌, ◌*◌, ◌≤◌, arith, Ok, None, ap}
use Rattle.dg_io.specs.ViewLaws.{keeps_both}
use Rattle.ufs_path.specs.Parents.{kept_in}
use Rattle.ufs_path.proofs.AnsweredLaws.{not_ok}
use Rattle.ufs_path.proofs.ConsultLaws.{consults_both}
use Rattle.ufs_path.proofs.NamingLaws.{parents_of}
use Rattle.ufs_path.proofs.naming.parents_below.Goals as goal

pub returns-in_err-enter_inode-clause-consults : goal.returns-in_err-enter_inode-clause-consults
returns-in_err-enter_inode-clause-consults g c =
    let so_far = c.loop-i.invariant.keeps in
    consults_both g.V.View g.met.V.View.fetched_both so_far c.enter_inode.ensures.keeps (λ is v holds. (so_far.stands v holds, λ b h. h))
    (λ h. absurd (not_ok c.from_residual.result None c.from_residual.ensures.0 h)) c.loop-i.invariant.consulted c.enter_inode.ensures.consults

pub returns-then-not-branch-clause-consults : goal.returns-then-not-branch-clause-consults
returns-then-not-branch-clause-consults g c =
    let so_far = c.loop-i.invariant.keeps in
    consults_both g.V.View g.met.V.View.fetched_both so_far c.enter_inode.ensures.keeps (λ is v holds. (so_far.stands v holds, λ b h. h))
    (λ h. ap Ok c.if-not-branch.true) c.loop-i.invariant.consulted c.in_ok-enter_inode.ensures.consults

pub loop-i-preserved : goal.loop-i-preserved
loop-i-preserved g c =
    let so_far = c.loop-i.invariant.keeps in
    let step = c.enter_inode.ensures.keeps in record {
      keeps = keeps_both g.met.V.View.further c.args.view.now c.loop-i.view c.enter_inode.new.view so_far step;
      levels = c.enter_inode.ensures.levels ∙ c.loop-i.invariant.levels;
      fits = λ is v holds. c.in_ok-enter_inode.ensures.found c.if-not-branch.false is v (so_far.stands v holds) (c.loop-i.invariant.fits (step.told is) v holds);
      consulted = consults_both g.V.View g.met.V.View.fetched_both so_far step (λ is v holds. (so_far.stands v holds, λ b h. h)) (λ h. absurd h)
          c.loop-i.invariant.consulted c.enter_inode.ensures.consults;
    }

pub returns-clause-found : goal.returns-clause-found
returns-clause-found g c = λ is v holds.
    let G = c.args.g.now in
    let last : G.ncg * G.ipg ≤ c.loop-i.i = omega (arith, c.loop-i-test.false) in
    parents_of G v c.loop-i.i (kept_in c.loop-i.table.directories) _ last (c.loop-i.invariant.fits is v holds).kept c.in_ok-parents_in.ensures
