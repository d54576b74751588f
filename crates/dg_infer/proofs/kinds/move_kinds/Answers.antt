use Rattle.std.proofs.Common.{◌≡◌, ◌∙◌, ◌*◌, ◌<◌, ◌≤◌, ℕ, inl, inr, refl, sym, ap, subst, arith}
use Rattle.std.proofs.lemmas.Bool.{cases_eq}
use Rattle.ufs_model.specs.Blocks.{block_at}
use Rattle.dg_infer.specs.Claimed.{StandsIn}
use Rattle.dg_infer.specs.Meanings.{kind_at, kind_by}
use Rattle.dg_infer.proofs.kinds.move_kinds.Goals as goal

pub loop-number-init : goal.loop-number-init
loop-number-init c = record {
  here = λ v has i low from lt. absurd (omega (arith, from, lt));
  others = λ i off. refl;
}

pub loop-number-preserved : goal.loop-number-preserved
loop-number-preserved c =
    let so_far = c.loop-number.invariant in
    let one = c.in_ok-move_kind.ensures in
    let number = c.loop-number.number in
    let here = c.inodes_near-first.ensures.each number c.loop-number.auto.number c.loop-number-test.true in
    let within : number < c.args.g.now.ncg * c.args.g.now.ipg = let most = c.inodes_near-first.ensures.inside in omega (arith, most, c.loop-number-test.true) in
    record {
      here = λ v has i low from lt. elim (cases_eq i number) [
        | inl e ↦ subst (λ (n : ℕ). kind_at c.move_kind.new.kinds.entries n ≡ kind_by c.args.g.now v n) (sym e)
            (one.here (subst (λ (n : ℕ). 2 ≤ n) e low) v (has ∙ ap (λ b. block_at c.args.g.now.fsize v b) (sym here)))
        | inr ne ↦ one.others i (λ two. ne) ∙ so_far.here v has i low from (omega (arith, lt, ne))
      ];
      others = λ i off. one.others i (λ two e. off (subst (λ (n : ℕ). StandsIn c.args.g.now n c.args.block) (sym e) (two, within, here))) ∙ so_far.others i off;
    }

pub returns-clause-here : goal.returns-clause-here
returns-clause-here c = λ v has i stands.
    let near = c.inodes_near-first.ensures.all i (stands.1) (stands.2) in
    c.loop-number.invariant.here v has i (stands.0) (near.0) (omega (arith, near.1, c.loop-number-test.false))
