use Rattle.std.proofs.Common.{◌≡◌, ◌∙◌, ◌+◌, ◌<◌, ◌≤◌, arith, sym, ap, refl, subst, Some, None, Ok, true, false, ℕ}
use Rattle.std.specs.Result.{is_ok}
use Rattle.dg_io.specs.ViewLaws.{keeps_both, keeps_same}
use Rattle.ufs_model.specs.Inodes.{block_count}
use Rattle.ufs_model.specs.Paths.{entries_before}
use Rattle.ufs_path.proofs.AnsweredLaws.{at_some, not_ok}
use Rattle.ufs_path.proofs.ConsultLaws.{consults_both, consults_none}
use Rattle.ufs_path.proofs.RunLaws.{bad_whole, before_first, before_more}
use Rattle.ufs_path.proofs.chunk_runs.judge_blocks.Goals as goal

pub loop-n-init : goal.loop-n-init
loop-n-init g c = record {
  keeps = keeps_same c.args.view.now c.requires.sound (g.met.V.View.unchanged c.args.view.now);
  levels = c.requires.levels;
  judged = λ is v holds kept known. (known, sym (ap (λ r. is_ok r) (before_first c.args.g.now c.args.inode.now v)));
  consulted = consults_none g.V.View c.args.view.now _ _ (g.met.V.View.fetched_none c.args.view.now) (λ h. h);
}

pub returns-in_err-judge_block-clause-consults : goal.returns-in_err-judge_block-clause-consults
returns-in_err-judge_block-clause-consults g c =
    let so_far = c.loop-n.invariant.keeps in
    consults_both g.V.View g.met.V.View.fetched_both so_far c.judge_block.ensures.keeps
    (λ is v holds. (so_far.stands v holds, λ b h. (c.loop-n.n, subst (λ (k : ℕ). c.loop-n.n < k) c.block_count-n-end.ensures.value c.loop-n-test.true, h)))
    (λ h. absurd (not_ok c.from_residual.result None c.from_residual.ensures.0 h)) c.loop-n.invariant.consulted c.judge_block.ensures.consults

pub returns-in-Some-false-clause-found : goal.returns-in-Some-false-clause-found
returns-in-Some-false-clause-found g c = λ is v holds kept known.
    let G = c.args.g.now in
    let I = c.args.inode.now in
    let n = c.loop-n.n in
    let so = c.loop-n.invariant.judged (c.judge_block.ensures.keeps.told is) v holds kept known in
    let one = (at_some c.in_ok-judge_block.field-0 _ false (c.in-Some-false.is ∙ ap Some c.in-Some-false.field-0-test) c.in_ok-judge_block.ensures.found) is v (c.loop-n.invariant.keeps.stands v holds) kept so.0 in
    let within : n + 1 ≤ block_count G I = omega (arith, c.loop-n-test.true, c.block_count-n-end.ensures.value) in
    (one.0, sym (bad_whole G I (n + 1) (block_count G I) v within (before_more G I n (n + 1) v refl (sym so.1) ∙ sym one.1)))

pub returns-in-Some-false-clause-consults : goal.returns-in-Some-false-clause-consults
returns-in-Some-false-clause-consults g c =
    let so_far = c.loop-n.invariant.keeps in
    consults_both g.V.View g.met.V.View.fetched_both so_far c.judge_block.ensures.keeps
    (λ is v holds. (so_far.stands v holds, λ b h. (c.loop-n.n, subst (λ (k : ℕ). c.loop-n.n < k) c.block_count-n-end.ensures.value c.loop-n-test.true, h)))
    (λ h. let no : Ok (Some false) ≡ Ok None = h in cc) c.loop-n.invariant.consulted c.judge_block.ensures.consults

pub returns-in-None-clause-consults : goal.returns-in-None-clause-consults
returns-in-None-clause-consults g c =
    let so_far = c.loop-n.invariant.keeps in
    consults_both g.V.View g.met.V.View.fetched_both so_far c.judge_block.ensures.keeps
    (λ is v holds. (so_far.stands v holds, λ b h. (c.loop-n.n, subst (λ (k : ℕ). c.loop-n.n < k) c.block_count-n-end.ensures.value c.loop-n-test.true, h)))
    (λ h. c.in_ok-judge_block.was ∙ ap Ok c.in-None.is) c.loop-n.invariant.consulted c.judge_block.ensures.consults

pub loop-n-preserved : goal.loop-n-preserved
loop-n-preserved g c =
    let so_far = c.loop-n.invariant.keeps in
    let step = c.judge_block.ensures.keeps in
    let G = c.args.g.now in
    let I = c.args.inode.now in
    let n = c.loop-n.n in record {
      keeps = keeps_both g.met.V.View.further c.args.view.now c.loop-n.view c.judge_block.new.view so_far step;
      levels = c.judge_block.ensures.levels ∙ c.loop-n.invariant.levels;
      judged = λ is v holds kept known.
          let so = c.loop-n.invariant.judged (step.told is) v holds kept known in
          let one = (at_some c.in_ok-judge_block.field-0 _ true (c.in-Some-true.is ∙ ap Some c.in-Some-true.field-0-test) c.in_ok-judge_block.ensures.found) is v (so_far.stands v holds) kept so.0 in
          (one.0, one.1 ∙ sym (before_more G I n (n + 1) v refl (sym so.1)));
      consulted = consults_both g.V.View g.met.V.View.fetched_both so_far step
          (λ is v holds. (so_far.stands v holds, λ b h. (c.loop-n.n, subst (λ (k : ℕ). c.loop-n.n < k) c.block_count-n-end.ensures.value c.loop-n-test.true, h)))
          (λ h. absurd h) c.loop-n.invariant.consulted c.judge_block.ensures.consults;
    }

pub returns-clause-found : goal.returns-clause-found
returns-clause-found g c = λ is v holds kept known.
    let ended : c.loop-n.n ≡ block_count c.args.g.now c.args.inode.now = omega (arith, c.loop-n-test.false, c.loop-n.auto.n-end, c.block_count-n-end.ensures.value) in
    let so = c.loop-n.invariant.judged is v holds kept known in
    (so.0, so.1 ∙ ap (λ (k : ℕ). is_ok ((entries_before c.args.g.now c.args.inode.now k v).value)) ended)
