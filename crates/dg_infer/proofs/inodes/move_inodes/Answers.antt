use Rattle.std.proofs.Common.{◌≡◌, ◌∙◌, ◌≤◌, ℕ, inl, inr, refl, sym, ap, subst, arith}
use Rattle.std.proofs.lemmas.Bool.{cases_eq}
use Rattle.ufs_model.specs.Blocks.{block_at}
use Rattle.ufs_model.specs.Claims.{source_fragments}
use Rattle.ufs_model.specs.declared.claims.ClaimSource.TheVariants.{Slot}
use Rattle.dg_claims.specs.Kept.{claimed_by}
use Rattle.dg_infer.proofs.WatchLaws.{grows_both, grows_same}
use Rattle.dg_infer.proofs.inodes.move_inodes.Goals as goal

pub loop-number-init : goal.loop-number-init
loop-number-init c = record {
  grows = grows_same c.args.watch.now;
  geometry = refl;
  slots = λ v has i slot low from lt. absurd (omega (arith, from, lt));
  others = λ source off. refl;
  watched = λ before is. is;
}

pub loop-number-preserved : goal.loop-number-preserved
loop-number-preserved c =
    let so_far = c.loop-number.invariant in
    let one = c.in_ok-move_number.ensures in
    let number = c.loop-number.number in
    let here = c.inodes_near-first.ensures.each number c.loop-number.auto.number c.loop-number-test.true in
    record {
      grows = grows_both c.args.watch.now c.loop-number.watch c.move_number.new.watch so_far.grows c.move_number.ensures.grows;
      geometry = c.move_number.ensures.geometry ∙ so_far.geometry;
      slots = λ v has i slot low from lt. elim (cases_eq i number) [
        | inl e ↦ subst (λ (n : ℕ). claimed_by c.move_number.new.claims.runs (Slot n slot) ≡ source_fragments c.args.g.now v (Slot n slot)) (sym e)
            (one.slots (subst (λ (n : ℕ). 2 ≤ n) e low) v (has ∙ ap (λ b. block_at c.args.g.now.fsize v b) (sym here)) slot)
        | inr ne ↦ c.move_number.ensures.others (Slot i slot) (λ two s e. ne (let same : i ≡ number = cc in same)) ∙ so_far.slots v has i slot low from (omega (arith, lt, ne))
      ];
      others = λ source off.
          c.move_number.ensures.others source (λ two s e. off number s (two, (let within = c.inodes_near-first.ensures.inside in omega (arith, within, c.loop-number-test.true)), here) e) ∙ so_far.others source off;
      watched = λ before is. one.watched before (so_far.watched before is);
    }

pub returns-clause-slots : goal.returns-clause-slots
returns-clause-slots c = λ v has i slot stands.
    let near = c.inodes_near-first.ensures.all i (stands.1) (stands.2) in
    c.loop-number.invariant.slots v has i slot (stands.0) (near.0) (omega (arith, near.1, c.loop-number-test.false))

pub returns-in_err-move_number-clause-others : goal.returns-in_err-move_number-clause-others
returns-in_err-move_number-clause-others c = λ source off.
    let number = c.loop-number.number in
    let here = c.inodes_near-first.ensures.each number c.loop-number.auto.number c.loop-number-test.true in
    c.move_number.ensures.others source (λ two s e. off number s (two, (let within = c.inodes_near-first.ensures.inside in omega (arith, within, c.loop-number-test.true)), here) e)
    ∙ c.loop-number.invariant.others source off
