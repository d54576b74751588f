use Rattle.std.proofs.Common.{◌≡◌, ◌∙◌, ◌+◌, ◌<◌, ℕ, length, refl, sym, ap, subst, arith}
use Rattle.dg_io.specs.ViewLaws.{keeps_both, keeps_same}
use Rattle.ufs_model.specs.Blocks.{block_at}
use Rattle.ufs_model.specs.Claims.{source_fragments}
use Rattle.ufs_model.specs.declared.claims.ClaimSource.{ClaimSource}
use Rattle.ufs_model.specs.declared.claims.ClaimSource.TheVariants.{Pointer}
use Rattle.dg_claims.specs.Kept.{claimed_by}
use Rattle.dg_infer.proofs.ChangeLaws.{claimed_stays, moved_more, others_more, right_below}
use Rattle.dg_infer.proofs.FetchedLaws.{begins_more, fetches_along, fetches_more, fetches_none}
use Rattle.dg_infer.proofs.WatchLaws.{grows_both, grows_same}
use Rattle.dg_infer.specs.Changes.{IsMoved}
use Rattle.dg_infer.specs.Fetched.{Begins}
use Rattle.dg_infer.specs.Watches.{touch_at}
use Rattle.dg_infer.specs.declared.watches.Touch.{Touch}
use Rattle.dg_infer.proofs.levels.move_level.Goals as goal

pub loop-k-init : goal.loop-k-init
loop-k-init g c = record {
  keeps = keeps_same c.args.view.now c.requires.sound (g.met.V.View.unchanged c.args.view.now);
  levels = refl;
  grows = grows_same c.args.watch.now;
  geometry = refl;
  moved = λ is v holds has j lt on. absurd (omega (arith, lt));
  others = λ source off. refl;
  watched = λ before is. is;
  fetched = fetches_none g.V.View.fetched (Begins c.args.watch.now (claimed_by c.args.claims.now.runs) c.args.level c.args.block 0) c.args.view.now (g.met.V.View.fetched_none c.args.view.now);
}

pub loop-k-preserved : goal.loop-k-preserved
loop-k-preserved g c =
    let so_far = c.loop-k.invariant in
    let one = c.in_ok-move_number.ensures in
    let touches = c.args.watch.now in
    let k = c.loop-k.k in
    let inside : k < length touches = omega (arith, c.count-count.ensures.value, c.loop-k-test.true) in
    let same : touch_at c.loop-k.watch k ≡ touch_at touches k = so_far.grows.same k inside in
    let others = subst (λ (t : Touch). (source : ClaimSource) → (t.level ≡ c.args.level → (at : ℕ) → source ≡ Pointer t.fragment c.args.level at → ⊥)
    → claimed_by c.move_number.new.claims.runs source ≡ claimed_by c.loop-k.claims.runs source) same one.others in
    let stays = (claimed_stays (claimed_by c.args.claims.now.runs) (claimed_by c.loop-k.claims.runs) touches c.args.level k ((touch_at c.loop-k.watch k).fragment) c.requires.low so_far.others).0 in
    record {
      keeps = keeps_both g.met.V.View.further c.args.view.now c.loop-k.view c.move_number.new.view so_far.keeps one.keeps;
      levels = one.levels ∙ so_far.levels;
      grows = grows_both c.args.watch.now c.loop-k.watch c.move_number.new.watch so_far.grows one.grows;
      geometry = one.geometry ∙ so_far.geometry;
      moved = λ is v holds has.
          moved_more (source_fragments c.args.g.now v) (claimed_by c.args.claims.now.runs) (claimed_by c.loop-k.claims.runs) (claimed_by c.move_number.new.claims.runs) c.args.level c.args.block touches k _ refl
          c.requires.low c.count-count.ensures.distinct inside so_far.others (so_far.moved (one.keeps.told is) v holds has) others
          (λ on. subst (λ (t : Touch). IsMoved (source_fragments c.args.g.now v) (claimed_by c.loop-k.claims.runs) (claimed_by c.move_number.new.claims.runs) c.args.block t) same
          (one.moved c.if-not-branch.false (ap (λ (t : Touch). t.level) same ∙ on) is v (so_far.keeps.stands v holds)
          (has ∙ ap (λ (l : ℕ). block_at l v c.args.block) (sym so_far.keeps.bytes))));
      others = others_more (claimed_by c.args.claims.now.runs) (claimed_by c.loop-k.claims.runs) (claimed_by c.move_number.new.claims.runs) c.args.level touches k _ refl so_far.others others;
      watched = λ before is. one.watched before (so_far.watched before is);
      fetched = fetches_more g.V.View.fetched touches (touch_at c.loop-k.watch k) (claimed_by c.args.claims.now.runs) (claimed_by c.loop-k.claims.runs) c.args.level c.args.block k (k + 1)
          c.args.view.now c.loop-k.view c.move_number.new.view g.met.V.View.fetched_both (omega arith) inside same c.count-count.ensures.distinct stays so_far.fetched one.fetched;
    }

pub returns-in_err-move_number-clause-fetched : goal.returns-in_err-move_number-clause-fetched
returns-in_err-move_number-clause-fetched g c =
    let so_far = c.loop-k.invariant in
    let touches = c.args.watch.now in
    let k = c.loop-k.k in
    let inside : k < length touches = omega (arith, c.count-count.ensures.value, c.loop-k-test.true) in
    let same : touch_at c.loop-k.watch k ≡ touch_at touches k = so_far.grows.same k inside in
    let stays = (claimed_stays (claimed_by c.args.claims.now.runs) (claimed_by c.loop-k.claims.runs) touches c.args.level k ((touch_at c.loop-k.watch k).fragment) c.requires.low so_far.others).0 in
    fetches_more g.V.View.fetched touches (touch_at c.loop-k.watch k) (claimed_by c.args.claims.now.runs) (claimed_by c.loop-k.claims.runs) c.args.level c.args.block k (length touches)
    c.args.view.now c.loop-k.view c.move_number.new.view g.met.V.View.fetched_both inside inside same c.count-count.ensures.distinct stays so_far.fetched c.move_number.ensures.fetched

pub returns-then-not-branch-clause-fetched : goal.returns-then-not-branch-clause-fetched
returns-then-not-branch-clause-fetched g c =
    let so_far = c.loop-k.invariant in
    let touches = c.args.watch.now in
    let k = c.loop-k.k in
    let inside : k < length touches = omega (arith, c.count-count.ensures.value, c.loop-k-test.true) in
    let same : touch_at c.loop-k.watch k ≡ touch_at touches k = so_far.grows.same k inside in
    let stays = (claimed_stays (claimed_by c.args.claims.now.runs) (claimed_by c.loop-k.claims.runs) touches c.args.level k ((touch_at c.loop-k.watch k).fragment) c.requires.low so_far.others).0 in
    fetches_more g.V.View.fetched touches (touch_at c.loop-k.watch k) (claimed_by c.args.claims.now.runs) (claimed_by c.loop-k.claims.runs) c.args.level c.args.block k (length touches)
    c.args.view.now c.loop-k.view c.move_number.new.view g.met.V.View.fetched_both inside inside same c.count-count.ensures.distinct stays so_far.fetched c.move_number.ensures.fetched

pub returns-then-not-branch-clause-lost : goal.returns-then-not-branch-clause-lost
returns-then-not-branch-clause-lost g c = λ missed.
    let so_far = c.loop-k.invariant in
    let lost = c.in_ok-move_number.ensures.lost c.if-not-branch.true in
    let stays = (claimed_stays (claimed_by c.args.claims.now.runs) (claimed_by c.loop-k.claims.runs) c.args.watch.now c.args.level c.loop-k.k ((touch_at c.loop-k.watch c.loop-k.k).fragment) c.requires.low so_far.others).0 in
    record {
      fragment = (touch_at c.loop-k.watch c.loop-k.k).fragment;
      within = subst (λ (n : ℕ). (touch_at c.loop-k.watch c.loop-k.k).fragment < n) so_far.keeps.blocks (lost.1);
      lost = lost.2;
      claim = stays (lost.0);
    }

pub returns-clause-fetched : goal.returns-clause-fetched
returns-clause-fetched g c =
    fetches_along g.V.View.fetched (Begins c.args.watch.now (claimed_by c.args.claims.now.runs) c.args.level c.args.block c.loop-k.k) (Begins c.args.watch.now (claimed_by c.args.claims.now.runs) c.args.level c.args.block (length c.args.watch.now))
    c.args.view.now c.loop-k.view (λ b h. begins_more c.args.watch.now (claimed_by c.args.claims.now.runs) c.args.level c.args.block c.loop-k.k (length c.args.watch.now) b (omega (arith, c.count-count.ensures.value, c.loop-k-test.false)) h) c.loop-k.invariant.fetched

pub returns-in_err-move_number-clause-others : goal.returns-in_err-move_number-clause-others
returns-in_err-move_number-clause-others g c = λ source off.
    c.move_number.ensures.others source (λ on at e. off ((touch_at c.loop-k.watch c.loop-k.k).fragment) at e)
    ∙ c.loop-k.invariant.others source (λ j at lt on e. off ((touch_at c.args.watch.now j).fragment) at e)

pub returns-then-not-branch-clause-others : goal.returns-then-not-branch-clause-others
returns-then-not-branch-clause-others g c = λ source off.
    c.move_number.ensures.others source (λ on at e. off ((touch_at c.loop-k.watch c.loop-k.k).fragment) at e)
    ∙ c.loop-k.invariant.others source (λ j at lt on e. off ((touch_at c.args.watch.now j).fragment) at e)

pub returns-clause-others : goal.returns-clause-others
returns-clause-others g c = λ source off. c.loop-k.invariant.others source (λ j at lt on e. off ((touch_at c.args.watch.now j).fragment) at e)

pub returns-clause-right : goal.returns-clause-right
returns-clause-right g c = λ got is v holds has sources before are off block_in watched right.
    let so_far = c.loop-k.invariant in
    let touches = c.args.watch.now in
    right_below (source_fragments c.args.g.now v) sources before (claimed_by c.args.claims.now.runs) (claimed_by c.loop-k.claims.runs) c.args.level c.args.block touches c.requires.low are off block_in watched
    (λ j lt on. so_far.moved is v holds has j (omega (arith, lt, c.count-count.ensures.value, c.loop-k-test.false)) on)
    (λ u a none. so_far.others (Pointer u c.args.level a) (λ j at lt on e.
    none (record {
      index = j;
      inside = omega (arith, lt, c.count-count.ensures.value);
      at = (let same : u ≡ (touch_at touches j).fragment = cc in sym same);
      on = on;
    })))
    (λ source off_all. so_far.others source (λ j at lt on e. off_all ((touch_at touches j).fragment) at e))
    right
