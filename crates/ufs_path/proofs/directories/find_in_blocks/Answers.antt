use Rattle.std.proofs.Common.{◌≡◌, ◌∙◌, ◌-◌, Some, None, Ok, Err, add-one, subst, arith}
use Rattle.dg_io.specs.ViewLaws.{keeps_both, keeps_same}
use Rattle.ufs_model.specs.Paths.{find_from}
use Rattle.ufs_model.specs.Readings.{Continues}
use Rattle.ufs_path.specs.Consults.{Leads}
use Rattle.ufs_model.proofs.ReadingLaws.{begins, ends, ends_refused, goes_on}
use Rattle.ufs_model.specs.declared.reads.PathRefusal.TheVariants.{NotFound}
use Rattle.ufs_path.proofs.DirectoryLaws.{next_block, no_block}
use Rattle.ufs_path.specs.Answers.{refusal_of}
use Rattle.ufs_path.proofs.ConsultLaws.{consults_along, consults_both, consults_none}
use Rattle.ufs_path.proofs.NeedLaws.{leads_first, leads_on, next_block as next_leads}
use Rattle.ufs_path.proofs.directories.find_in_blocks.Goals as goal

pub returns-in-Ok-Some-clause-rule : goal.returns-in-Ok-Some-clause-rule
returns-in-Ok-Some-clause-rule g c =
    let so_far = c.loop-n.invariant.keeps in
    ends (Ok c.in-Ok-Some.found)
    (goes_on _ (Some c.in-Ok-Some.found) c.find_in_block.ensures.keeps.stays so_far.stands c.find_in_block.ensures.keeps.told
    (next_block c.args.g.now c.args.inode.now c.args.name.now c.loop-n.n c.args.count c.loop-n-test.true c.loop-n.invariant.rest)
    (rw c.in-Ok-Some.field-0-is at c.in-Ok-Some.ensures.rule))

pub returns-in-Err-clause-rule : goal.returns-in-Err-clause-rule
returns-in-Err-clause-rule g c =
    let so_far = c.loop-n.invariant.keeps in
    ends_refused refusal_of _ c.in-Err.fault c.find_in_block.ensures.keeps.stays so_far.stands c.find_in_block.ensures.keeps.told
    (next_block c.args.g.now c.args.inode.now c.args.name.now c.loop-n.n c.args.count c.loop-n-test.true c.loop-n.invariant.rest)
    c.in-Err.ensures.rule

pub loop-n-init : goal.loop-n-init
loop-n-init g c =
    let same : c.args.count ≡ c.args.count - 0 = omega arith in record {
      keeps = keeps_same c.args.view.now c.requires.sound (g.met.V.View.unchanged c.args.view.now);
      levels = c.requires.levels;
      rest = subst (λ k. Continues (g.V.View.stands_for c.args.view.now) (g.V.View.is_gone c.args.view.now) (g.V.View.tells c.args.view.now) (g.V.View.is_gone c.args.view.now)
          (find_from c.args.g.now c.args.inode.now c.args.name.now 0 c.args.count) (find_from c.args.g.now c.args.inode.now c.args.name.now 0 k)) same (begins _ _ _ _);
      consulted = consults_none g.V.View c.args.view.now _ _ (g.met.V.View.fetched_none c.args.view.now) (λ h. h);
      leads = subst (λ k. Leads (g.V.View.stands_for c.args.view.now) (g.V.View.tells c.args.view.now)
          (find_from c.args.g.now c.args.inode.now c.args.name.now 0 c.args.count) (find_from c.args.g.now c.args.inode.now c.args.name.now 0 k)) same (record { go = λ is v holds b h. h });
    }

pub loop-n-preserved : goal.loop-n-preserved
loop-n-preserved g c = let so_far = c.loop-n.invariant.keeps in record {
  keeps = keeps_both g.met.V.View.further c.args.view.now c.loop-n.view c.find_in_block.new.view so_far c.find_in_block.ensures.keeps;
  levels = c.find_in_block.ensures.levels ∙ c.loop-n.invariant.levels;
  rest = rw add-one (goes_on _ None c.find_in_block.ensures.keeps.stays so_far.stands c.find_in_block.ensures.keeps.told
      (next_block c.args.g.now c.args.inode.now c.args.name.now c.loop-n.n c.args.count c.loop-n-test.true c.loop-n.invariant.rest)
      (rw c.in-Ok-None.field-0-is at c.in-Ok-None.ensures.rule));
  consulted = consults_both g.V.View g.met.V.View.fetched_both so_far c.find_in_block.ensures.keeps
      (λ is v holds. (so_far.stands v holds, leads_first _ _ (next_leads c.args.g.now c.args.inode.now c.args.name.now c.loop-n.n c.args.count c.loop-n-test.true c.loop-n.invariant.leads) (c.find_in_block.ensures.keeps.told is) v holds)) (λ h. absurd h) c.loop-n.invariant.consulted c.find_in_block.ensures.consults;
  leads = rw add-one (leads_on _ _ None so_far.stands c.find_in_block.ensures.keeps.told (next_leads c.args.g.now c.args.inode.now c.args.name.now c.loop-n.n c.args.count c.loop-n-test.true c.loop-n.invariant.leads) (rw c.in-Ok-None.field-0-is at c.in-Ok-None.ensures.rule));
}

pub returns-clause-rule : goal.returns-clause-rule
returns-clause-rule g c =
    ends (Err NotFound) (no_block c.args.g.now c.args.inode.now c.args.name.now c.loop-n.n c.args.count (omega arith) c.loop-n.invariant.rest)

pub returns-in-Ok-Some-clause-consults : goal.returns-in-Ok-Some-clause-consults
returns-in-Ok-Some-clause-consults g c =
    let so_far = c.loop-n.invariant.keeps in
    let step = c.find_in_block.ensures.keeps in
    consults_both g.V.View g.met.V.View.fetched_both so_far step
    (λ is v holds. (so_far.stands v holds, leads_first _ _ (next_leads c.args.g.now c.args.inode.now c.args.name.now c.loop-n.n c.args.count c.loop-n-test.true c.loop-n.invariant.leads) (step.told is) v holds)) (λ h. absurd h) c.loop-n.invariant.consulted c.find_in_block.ensures.consults

pub returns-in-Err-clause-consults : goal.returns-in-Err-clause-consults
returns-in-Err-clause-consults g c =
    let so_far = c.loop-n.invariant.keeps in
    let step = c.find_in_block.ensures.keeps in
    consults_both g.V.View g.met.V.View.fetched_both so_far step
    (λ is v holds. (so_far.stands v holds, leads_first _ _ (next_leads c.args.g.now c.args.inode.now c.args.name.now c.loop-n.n c.args.count c.loop-n-test.true c.loop-n.invariant.leads) (step.told is) v holds)) (λ h. h) c.loop-n.invariant.consulted c.in-Err.ensures.consults

pub returns-clause-consults : goal.returns-clause-consults
returns-clause-consults g c = consults_along g.V.View (λ is v holds. (holds, λ b h. h)) (λ h. absurd h) c.loop-n.invariant.consulted
