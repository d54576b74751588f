use Rattle.std.proofs.Common.{◌≡◌, ◌∙◌, suc, ◌*◌, true, false, add-one, arith}
use Rattle.dg_io.specs.ViewLaws.{keeps_both, keeps_same}
use Rattle.ufs_model.proofs.AreaLaws.{area_none, area_more, area_fails, area_fails_whole, buffer_more}
use Rattle.ufs_pointer.proofs.AreaFetches.{fetched_more, area_cut, area_whole, area_fetches}
use Rattle.ufs_pointer.proofs.areas.read_area.Goals as goal

pub loop-i-init : goal.loop-i-init
loop-i-init g c = record {
  keeps = keeps_same c.args.view.now c.requires.sound (g.met.V.View.unchanged c.args.view.now);
  room = rw c.shape-size.ensures.size c.requires.room;
  reads = let none : 0 * c.shape-size.result.0 ≡ 0 = omega arith in rw none (area_none (g.V.View.size c.args.view.now) c.args.a);
  were = g.met.V.View.fetched_none c.args.view.now;
}

pub returns-then-not-fetch_at-clause-rule : goal.returns-then-not-fetch_at-clause-rule
returns-then-not-fetch_at-clause-rule g c =
    let so_far = c.loop-i.invariant.keeps in
    area_fails_whole (g.V.View.size c.args.view.now) c.args.a (suc c.loop-i.i) c.args.k (omega arith)
    (area_fails (g.V.View.size c.args.view.now) c.args.a c.loop-i.i _ so_far.stays so_far.stands c.fetch_at.ensures.keeps.told c.loop-i.invariant.reads
    (rw so_far.bytes at c.if-not-fetch_at.ensures.rule))

pub loop-i-preserved : goal.loop-i-preserved
loop-i-preserved g c = let so_far = c.loop-i.invariant.keeps in record {
  keeps = keeps_both g.met.V.View.further c.args.view.now c.loop-i.view c.fetch_at.new.view so_far c.fetch_at.ensures.keeps;
  room = c.fetch_at.ensures.room ∙ c.loop-i.invariant.room;
  reads = rw (add-one, ← buffer_more c.loop-i.buf c.fetch_at.new.buf c.loop-i.i c.shape-size.result.0 c.fetch_at.ensures.front)
      (area_more (g.V.View.size c.args.view.now) c.args.a c.loop-i.i _ _ so_far.stays c.fetch_at.ensures.keeps.stays so_far.stands c.fetch_at.ensures.keeps.told c.loop-i.invariant.reads
      (rw so_far.bytes at c.if-not-fetch_at.ensures.rule));
  were = rw add-one (fetched_more g.V.View.fetched c.args.a c.loop-i.i c.args.view.now c.loop-i.view c.fetch_at.new.view g.met.V.View.fetched_both c.loop-i.invariant.were c.fetch_at.ensures.fetched);
}

pub returns-then-not-fetch_at-clause-area : goal.returns-then-not-fetch_at-clause-area
returns-then-not-fetch_at-clause-area g c =
    area_cut g.V.View.fetched (g.V.View.is_gone c.fetch_at.new.view) c.args.a c.loop-i.i c.args.k c.args.view.now c.fetch_at.new.view (omega arith) (c.fetch_at.ensures.gone c.if-not-fetch_at.true)
    (fetched_more g.V.View.fetched c.args.a c.loop-i.i c.args.view.now c.loop-i.view c.fetch_at.new.view g.met.V.View.fetched_both c.loop-i.invariant.were c.fetch_at.ensures.fetched)

pub returns-then-not-fetch_at-clause-fetched : goal.returns-then-not-fetch_at-clause-fetched
returns-then-not-fetch_at-clause-fetched g c = area_fetches (g.V.View.size c.args.view.now) c.args.a c.args.k false c.fetch_at.new.buf (returns-then-not-fetch_at-clause-area g c)

pub returns-clause-fetched : goal.returns-clause-fetched
returns-clause-fetched g c = area_fetches (g.V.View.size c.args.view.now) c.args.a c.args.k true c.loop-i.buf
    (area_whole g.V.View.fetched (g.V.View.is_gone c.loop-i.view) c.args.a c.loop-i.i c.args.k c.args.view.now c.loop-i.view c.loop-i.auto.i-end c.loop-i-test.false c.loop-i.invariant.were)
