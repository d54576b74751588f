use Rattle.std.proofs.Common.{◌≡◌, ◌∙◌, ◌+◌, ℕ, refl, sym, ap, subst, arith}
use Rattle.dg_io.specs.ViewLaws.{keeps_both, keeps_same}
use Rattle.ufs_model.specs.Blocks.{block_at}
use Rattle.ufs_pointer.specs.KindLaws.{loses_along}
use Rattle.dg_claims.specs.Kept.{claimed_by}
use Rattle.dg_infer.proofs.FetchedLaws.{areas_cut, areas_more, fetches_none}
use Rattle.dg_infer.proofs.SweepLaws.{gathered_none}
use Rattle.dg_infer.proofs.WatchLaws.{grows_both, grows_same}
use Rattle.dg_infer.specs.Areas.{IsAreaRest}
use Rattle.dg_infer.specs.Sweeps.{AreKindsBefore, AreMarksBefore, AreSlotsBefore}
use Rattle.dg_infer.proofs.sweeps.read_places.Goals as goal

pub loop-place-init : goal.loop-place-init
loop-place-init g c = record {
  keeps = keeps_same c.args.view.now c.requires.sound (g.met.V.View.unchanged c.args.view.now);
  levels = refl;
  grows = grows_same c.args.sweep.now.watch;
  geometry = refl;
  room = refl;
  gathered = gathered_none c.args.g.now c.args.sweep.now.group.items;
  watched = λ before is. is;
  slots = λ is v holds has before. before;
  kinds = λ is v holds has before. before;
  marks = λ is v holds has before. before;
  fetched = fetches_none g.V.View.fetched (IsAreaRest c.args.g.now 0 c.args.block) c.args.view.now (g.met.V.View.fetched_none c.args.view.now);
}

pub loop-place-preserved : goal.loop-place-preserved
loop-place-preserved g c =
    let so_far = c.loop-place.invariant in
    let one = c.in_ok-read_place.ensures in
    record {
      keeps = keeps_both g.met.V.View.further c.args.view.now c.loop-place.view c.read_place.new.view so_far.keeps one.keeps;
      levels = one.levels ∙ so_far.levels;
      grows = grows_both c.args.sweep.now.watch c.loop-place.sweep.watch c.read_place.new.sweep.watch so_far.grows one.grows;
      geometry = one.geometry ∙ so_far.geometry;
      room = one.room ∙ so_far.room;
      gathered = one.gathered c.if-not-branch.false;
      watched = λ before is. one.watched before (so_far.watched before is);
      slots = λ is v holds has before.
          one.slots c.if-not-branch.false is v (so_far.keeps.stands v holds) (has ∙ ap (λ (l : ℕ). block_at l v c.args.block) (sym so_far.keeps.bytes)) (so_far.slots (one.keeps.told is) v holds has before);
      kinds = λ is v holds has before.
          one.kinds c.if-not-branch.false is v (so_far.keeps.stands v holds) (has ∙ ap (λ (l : ℕ). block_at l v c.args.block) (sym so_far.keeps.bytes)) (so_far.kinds (one.keeps.told is) v holds has before);
      marks = λ is v holds has before.
          one.marks c.if-not-branch.false is v (so_far.keeps.stands v holds) (has ∙ ap (λ (l : ℕ). block_at l v c.args.block) (sym so_far.keeps.bytes)) (so_far.marks (one.keeps.told is) v holds has before);
      fetched = areas_more g.V.View.fetched c.args.g.now c.loop-place.place (c.loop-place.place + 1) c.args.block c.args.view.now c.loop-place.view c.read_place.new.view g.met.V.View.fetched_both
          (omega arith) so_far.fetched one.fetched;
    }

pub returns-in_err-read_place-clause-fetched : goal.returns-in_err-read_place-clause-fetched
returns-in_err-read_place-clause-fetched g c =
    areas_more g.V.View.fetched c.args.g.now c.loop-place.place c.args.g.now.size c.args.block c.args.view.now c.loop-place.view c.read_place.new.view g.met.V.View.fetched_both
    (omega (arith, c.loop-place-test.true)) c.loop-place.invariant.fetched c.read_place.ensures.fetched

pub returns-then-not-branch-clause-fetched : goal.returns-then-not-branch-clause-fetched
returns-then-not-branch-clause-fetched g c =
    areas_more g.V.View.fetched c.args.g.now c.loop-place.place c.args.g.now.size c.args.block c.args.view.now c.loop-place.view c.read_place.new.view g.met.V.View.fetched_both
    (omega (arith, c.loop-place-test.true)) c.loop-place.invariant.fetched c.read_place.ensures.fetched

pub returns-then-not-branch-clause-lost : goal.returns-then-not-branch-clause-lost
returns-then-not-branch-clause-lost g c = λ missed.
    let so_far = c.loop-place.invariant.keeps in
    loses_along so_far.blocks (λ b h. h) (λ h. h) (λ is v holds. (so_far.stands v holds, λ b h. h)) (c.in_ok-read_place.ensures.lost c.if-not-branch.true)

pub returns-clause-slots : goal.returns-clause-slots
returns-clause-slots g c = λ got is v holds has before.
    let end : c.loop-place.place ≡ c.args.g.now.size = omega (arith, c.loop-place-test.false, c.loop-place.auto.place-end) in
    subst (λ (n : ℕ). AreSlotsBefore c.args.g.now v n (claimed_by c.loop-place.sweep.claims.runs)) end (c.loop-place.invariant.slots is v holds has before)

pub returns-clause-kinds : goal.returns-clause-kinds
returns-clause-kinds g c = λ got is v holds has before.
    let end : c.loop-place.place ≡ c.args.g.now.size = omega (arith, c.loop-place-test.false, c.loop-place.auto.place-end) in
    subst (λ (n : ℕ). AreKindsBefore c.args.g.now v n c.loop-place.sweep.kinds.entries) end (c.loop-place.invariant.kinds is v holds has before)

pub returns-clause-marks : goal.returns-clause-marks
returns-clause-marks g c = λ got is v holds has before.
    let end : c.loop-place.place ≡ c.args.g.now.size = omega (arith, c.loop-place-test.false, c.loop-place.auto.place-end) in
    subst (λ (n : ℕ). AreMarksBefore c.args.g.now v n c.loop-place.sweep.free.items c.loop-place.sweep.group.items) end (c.loop-place.invariant.marks is v holds has before)

pub returns-clause-fetched : goal.returns-clause-fetched
returns-clause-fetched g c =
    areas_cut g.V.View.fetched c.args.g.now c.loop-place.place c.args.g.now.size c.args.block c.args.view.now c.loop-place.view (omega (arith, c.loop-place.auto.place-end)) c.loop-place.invariant.fetched
