use Rattle.std.proofs.Common.{◌≡◌, ◌∙◌, ◌+◌, ◌-◌, ◌<◌, ℕ, refl, sym, ap, subst, arith}
use Rattle.dg_io.specs.ViewLaws.{keeps_both, keeps_same}
use Rattle.ufs_model.specs.Blocks.{block_at}
use Rattle.ufs_model.specs.Claims.{source_fragments}
use Rattle.dg_claims.specs.Kept.{claimed_by}
use Rattle.dg_infer.proofs.ChangeLaws.{is_indirect, right_in_the_end}
use Rattle.dg_infer.proofs.FetchedLaws.{begun_cut, levels_more, places_none}
use Rattle.dg_infer.proofs.WatchLaws.{grows_both, grows_same, touched_grows}
use Rattle.dg_infer.specs.Changes.{IsRightDownTo}
use Rattle.dg_infer.specs.Places.{IsClaimedReady}
use Rattle.dg_infer.proofs.levels.move_levels.Goals as goal

pub loop-done-init : goal.loop-done-init
loop-done-init g c = record {
  keeps = keeps_same c.args.view.now c.requires.sound (g.met.V.View.unchanged c.args.view.now);
  levels = refl;
  geometry = refl;
  grows = grows_same c.args.watch.now;
  watched = λ before is. is;
  right = λ is v holds has sources before ready. ready.right;
  fetched = λ before is. places_none g.V.View.fetched _ c.args.view.now (g.met.V.View.fetched_none c.args.view.now);
}

pub loop-done-preserved : goal.loop-done-preserved
loop-done-preserved g c =
    let so_far = c.loop-done.invariant in
    let one = c.in_ok-move_level.ensures in
    let less : 3 - c.loop-done.done - 1 ≡ 3 - (c.loop-done.done + 1) = omega arith in
    let level = 3 - c.loop-done.done in
    record {
      keeps = keeps_both g.met.V.View.further c.args.view.now c.loop-done.view c.move_level.new.view so_far.keeps one.keeps;
      levels = one.levels ∙ so_far.levels;
      geometry = one.geometry ∙ so_far.geometry;
      grows = grows_both c.args.watch.now c.loop-done.watch c.move_level.new.watch so_far.grows one.grows;
      watched = λ before is. one.watched before (so_far.watched before is);
      right = λ is v holds has sources before ready.
          subst (λ (k : ℕ). IsRightDownTo (source_fragments c.args.g.now v) before (claimed_by c.move_level.new.claims.runs) k) less
          (one.right c.if-not-branch.false is v (so_far.keeps.stands v holds) (has ∙ ap (λ (l : ℕ). block_at l v c.args.block) (sym so_far.keeps.bytes)) sources before ready.were
          (λ u a had apart. ready.same u level a had apart)
          (touched_grows c.args.watch.now c.loop-done.watch level c.args.block so_far.grows (ready.touched level (omega (arith, c.loop-done-test.true)) (omega arith)))
          (so_far.watched before ready.watched) (so_far.right (one.keeps.told is) v holds has sources before ready));
      fetched = λ before is.
          levels_more g.V.View g.met.V.View.fetched_both before (claimed_by c.args.claims.now.runs) (claimed_by c.loop-done.claims.runs) c.args.watch.now c.loop-done.watch
          (3 - c.loop-done.done) (3 - (c.loop-done.done + 1)) c.args.g.now c.args.block c.args.bytes.now c.args.view.now c.loop-done.view c.move_level.new.view (omega (arith, c.loop-done-test.true))
          (so_far.watched before is) c.move_level.ensures.keeps.told so_far.right (so_far.fetched before is) c.move_level.ensures.fetched;
    }

pub returns-then-not-branch-clause-lost : goal.returns-then-not-branch-clause-lost
returns-then-not-branch-clause-lost g c = λ missed.
    let so_far = c.loop-done.invariant in
    let lost = c.in_ok-move_level.ensures.lost c.if-not-branch.true in
    record {
      block = lost.fragment;
      within = subst (λ (n : ℕ). lost.fragment < n) so_far.keeps.blocks lost.within;
      lost = lost.lost;
      of_kind = λ is v h.
          let holds = h.0 in
          let ready = h.1 in
          is_indirect (source_fragments c.args.g.now v) (ready.1) (claimed_by c.loop-done.claims.runs) (3 - c.loop-done.done) lost.fragment
          (so_far.right (c.move_level.ensures.keeps.told is) v (holds.0) (holds.1) (ready.0) (ready.1) (ready.2)) (omega (arith, c.loop-done-test.true)) lost.claim;
    }

pub returns-clause-right : goal.returns-clause-right
returns-clause-right g c = λ got is v holds has sources before ready.
    right_in_the_end (source_fragments c.args.g.now v) sources before (claimed_by c.loop-done.claims.runs) ready.were
    (subst (λ (k : ℕ). IsRightDownTo (source_fragments c.args.g.now v) before (claimed_by c.loop-done.claims.runs) k)
    (let none : 3 - c.loop-done.done ≡ 0 = omega (arith, c.loop-done-test.false) in none) (c.loop-done.invariant.right is v holds has sources before ready))

pub returns-in_err-move_level-clause-fetched : goal.returns-in_err-move_level-clause-fetched
returns-in_err-move_level-clause-fetched g c = λ before is.
    let so_far = c.loop-done.invariant in
    levels_more g.V.View g.met.V.View.fetched_both before (claimed_by c.args.claims.now.runs) (claimed_by c.loop-done.claims.runs) c.args.watch.now c.loop-done.watch
    (3 - c.loop-done.done) 0 c.args.g.now c.args.block c.args.bytes.now c.args.view.now c.loop-done.view c.move_level.new.view (omega (arith, c.loop-done-test.true))
    (so_far.watched before is) c.move_level.ensures.keeps.told so_far.right (so_far.fetched before is) c.move_level.ensures.fetched

pub returns-then-not-branch-clause-fetched : goal.returns-then-not-branch-clause-fetched
returns-then-not-branch-clause-fetched g c = λ before is.
    let so_far = c.loop-done.invariant in
    levels_more g.V.View g.met.V.View.fetched_both before (claimed_by c.args.claims.now.runs) (claimed_by c.loop-done.claims.runs) c.args.watch.now c.loop-done.watch
    (3 - c.loop-done.done) 0 c.args.g.now c.args.block c.args.bytes.now c.args.view.now c.loop-done.view c.move_level.new.view (omega (arith, c.loop-done-test.true))
    (so_far.watched before is) c.move_level.ensures.keeps.told so_far.right (so_far.fetched before is) c.move_level.ensures.fetched

pub returns-clause-fetched : goal.returns-clause-fetched
returns-clause-fetched g c = λ before is.
    begun_cut g.V.View.fetched before (IsClaimedReady g.V.View c.args.view.now c.loop-done.view c.args.g.now c.args.block c.args.bytes.now (claimed_by c.args.claims.now.runs) c.args.watch.now)
    (3 - c.loop-done.done) 0 c.args.block c.args.view.now c.loop-done.view (omega (arith, c.loop-done-test.false)) (c.loop-done.invariant.fetched before is)
