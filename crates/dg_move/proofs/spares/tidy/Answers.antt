use Rattle.std.proofs.Common.{◌≡◌, ℕ, [], ◌+◌, arith, ap, subst, sym, refl, ◌∙◌, inl, inr}
use Rattle.dg_model.specs.Tables.{sites_in}
use Rattle.dg_plan.specs.Targets.{wants_of}
use Rattle.dg_store.specs.Stores.{table_of}
use Rattle.dg_model.specs.Moves.{all_done, spare}
use Rattle.std.proofs.lemmas.Bool.{cases_eq}
use Rattle.dg_move.proofs.StoreLaws.{only_both, only_none, tidy_more}
use Rattle.dg_model.specs.declared.shapes.Shape.{Shape}
use Rattle.dg_model.proofs.ActionLists.{tidying_below, tidying_is}
use Rattle.dg_move.proofs.spares.tidy.Goals as goal

pub loop-block-preserved : goal.loop-block-preserved
loop-block-preserved g c =
    let k = c.loop-block.block in
    let now = c.loop-block.store in
    let new = c.give_up_spare.new.store in
    let inv = c.loop-block.invariant in
    let e = c.give_up_spare.ensures in
    let targets = wants_of c.args.targets.now in
    record {
      only = only_both g.R.Rack targets c.args.store.now now new inv.only e.only;
      acts = tidy_more targets (table_of c.args.store.now) (table_of now) (table_of new) k (k + 1) refl inv.acts (inv.above k (omega arith)) e.acts;
      above = λ b le. e.others b (λ at. absurd (omega (arith, le, at))) ∙ inv.above b (omega (arith, le));
      below = λ b low. elim (cases_eq b k) [
        | inl here ↦ subst (λ (i : ℕ). spare (targets i) (sites_in (table_of new) i) ≡ []) (sym here) e.none
        | inr off ↦ ap (spare (targets b)) (e.others b off) ∙ inv.below b (omega (arith, low, off))
      ];
    }

pub returns-clause-acts : goal.returns-clause-acts
returns-clause-acts g c =
    let targets = wants_of c.args.targets.now in
    let old = table_of c.args.store.now in
    let blocks = ap (λ (s : Shape). s.n) c.shape.ensures in
    let ended : c.loop-block.block ≡ old.shape.n = omega (arith, c.loop-block-test.false, c.loop-block.auto.block-end, blocks) in
    c.loop-block.invariant.acts ∙ ap (λ (k : ℕ). all_done old (tidying_below targets old k)) ended ∙ ap (all_done old) (sym (tidying_is targets old))

pub loop-block-init : goal.loop-block-init
loop-block-init g c = record {
  only = only_none g.R.Rack (wants_of c.args.targets.now) c.args.store.now c.requires.sound;
  acts = refl;
  above = λ b past. refl;
  below = λ b low. absurd (omega (arith, low));
}
