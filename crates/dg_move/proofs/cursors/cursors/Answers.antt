use Rattle.std.proofs.Common.{◌≡◌, ◌<◌, length, ℕ, arith, ap, subst, sym, ◌∙◌, get_or, set, inl, inr}
use Rattle.dg_plan.specs.Targets.{wants_of}
use Rattle.dg_store.specs.Stores.{table_of}
use Rattle.dg_move.specs.Cursors.{IsFrom}
use Rattle.std.proofs.lemmas.Bool.{cases_eq}
use Rattle.std.proofs.lemmas.List.{get_or-set_other, get_or-set_same, length-set}
use Rattle.dg_model.specs.declared.shapes.Shape.{Shape}
use Rattle.dg_move.proofs.cursors.cursors.Goals as goal

pub loop-boundary-preserved : goal.loop-boundary-preserved
loop-boundary-preserved g c =
    let next = c.loop-boundary.next in
    let k = c.loop-boundary.boundary in
    let r = c.first_missing.result in
    let table = table_of c.args.store.now in
    let targets = wants_of c.args.targets.now in
    let boundaries : c.shape.result.now.b ≡ table.shape.b = ap (λ (s : Shape). s.b) c.shape.ensures in
    let most = c.requires.sound.table.shape.most_boundaries in
    let size = c.loop-boundary.invariant.size in
    let inside : k < length next = omega (arith, c.loop-boundary-test.true, boundaries, most, size) in
    record {
      size = length-set next k r ∙ size;
      are = λ t below. elim (cases_eq t k) [
        | inl here ↦
            let now : get_or (set next k r) t 0 ≡ r = ap (λ (i : ℕ). get_or (set next k r) i 0) here ∙ get_or-set_same next k r 0 inside in
            subst (λ (v : ℕ). IsFrom targets table t 0 v) (sym now) (subst (λ (i : ℕ). IsFrom targets table i 0 r) (sym here) c.first_missing.ensures)
        | inr off ↦
            subst (λ (v : ℕ). IsFrom targets table t 0 v) (sym (get_or-set_other next k t r 0 off)) (c.loop-boundary.invariant.are t (omega (arith, below, off)))
      ];
    }
