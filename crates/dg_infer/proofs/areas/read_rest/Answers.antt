use Rattle.std.proofs.Common.{◌≡◌, ◌∙◌, ◌+◌, ◌*◌, ◌++◌, ℕ, refl, sym, ap, arith, length}
use Rattle.dg_io.specs.ViewLaws.{keeps_both, keeps_same}
use Rattle.ufs_model.specs.Blocks.{area_of, block_at}
use Rattle.ufs_pointer.specs.KindLaws.{loses_once}
use Rattle.dg_infer.proofs.AreaLaws.{area_more, area_none}
use Rattle.dg_infer.proofs.FetchedLaws.{fetches_along, fetches_none, rest_more}
use Rattle.dg_infer.proofs.SweepLaws.{next_product, zero_product}
use Rattle.dg_infer.specs.Areas.{IsFrom, IsRest}
use Rattle.dg_infer.proofs.areas.read_rest.Goals as goal

pub loop-i-init : goal.loop-i-init
loop-i-init g c = record {
  keeps = keeps_same c.args.view.now c.requires.sound (g.met.V.View.unchanged c.args.view.now);
  levels = refl;
  room = ap length c.new-area.ensures.items ∙ zero_product 0 (g.V.View.size c.args.view.now) refl;
  area = λ is v holds has. c.new-area.ensures.items ∙ sym (area_none (g.V.View.size c.args.view.now) c.args.a v);
  fetched = fetches_none g.V.View.fetched (IsRest c.args.a 0 c.args.block) c.args.view.now (g.met.V.View.fetched_none c.args.view.now);
}

pub loop-i-preserved : goal.loop-i-preserved
loop-i-preserved g c =
    let so_far = c.loop-i.invariant in
    let one = c.in_ok-push_block.ensures in
    let l = g.V.View.size c.args.view.now in
    record {
      keeps = keeps_both g.met.V.View.further c.args.view.now c.loop-i.view c.push_block.new.view so_far.keeps one.keeps;
      levels = one.levels ∙ so_far.levels;
      room = one.room c.if-not-branch.false ∙ ap (λ (n : ℕ). n + g.V.View.size c.loop-i.view) so_far.room ∙ ap (λ (n : ℕ). c.loop-i.i * l + n) so_far.keeps.bytes ∙ next_product c.loop-i.i l;
      area = λ is v holds has.
          one.area c.if-not-branch.false is v (so_far.keeps.stands v holds) (has ∙ ap (λ (n : ℕ). block_at n v c.args.block) (sym so_far.keeps.bytes))
          ∙ ap (λ xs. xs ++ block_at (g.V.View.size c.loop-i.view) v (c.args.a + c.loop-i.i)) (so_far.area (one.keeps.told is) v holds has)
          ∙ ap (λ (n : ℕ). (area_of l c.args.a c.loop-i.i v).value ++ block_at n v (c.args.a + c.loop-i.i)) so_far.keeps.bytes
          ∙ sym (area_more l c.args.a c.loop-i.i (c.loop-i.i + 1) v (omega arith));
      fetched = rest_more g.V.View.fetched c.args.a c.loop-i.i (c.loop-i.i + 1) c.args.block c.args.view.now c.loop-i.view c.push_block.new.view g.met.V.View.fetched_both (omega arith) so_far.fetched one.fetched;
    }

pub returns-in_err-push_block-clause-fetched : goal.returns-in_err-push_block-clause-fetched
returns-in_err-push_block-clause-fetched g c =
    rest_more g.V.View.fetched c.args.a c.loop-i.i c.args.k c.args.block c.args.view.now c.loop-i.view c.push_block.new.view g.met.V.View.fetched_both (omega (arith, c.loop-i-test.true))
    c.loop-i.invariant.fetched c.push_block.ensures.fetched

pub returns-then-not-branch-clause-fetched : goal.returns-then-not-branch-clause-fetched
returns-then-not-branch-clause-fetched g c =
    rest_more g.V.View.fetched c.args.a c.loop-i.i c.args.k c.args.block c.args.view.now c.loop-i.view c.push_block.new.view g.met.V.View.fetched_both (omega (arith, c.loop-i-test.true))
    c.loop-i.invariant.fetched c.push_block.ensures.fetched

pub returns-then-not-branch-clause-lost : goal.returns-then-not-branch-clause-lost
returns-then-not-branch-clause-lost g c =
    loses_once (λ v b. IsFrom c.args.a c.args.k b) (let most = c.requires.within in omega (arith, c.loop-i-test.true, most)) (c.in_ok-push_block.ensures.gone c.if-not-branch.true)
    (λ v holds. (omega arith, omega (arith, c.loop-i-test.true)))

pub returns-clause-area : goal.returns-clause-area
returns-clause-area g c = λ is v holds has.
    let end : c.loop-i.i ≡ c.args.k = omega (arith, c.loop-i-test.false, c.loop-i.auto.i-end) in
    c.loop-i.invariant.area is v holds has ∙ ap (λ (n : ℕ). (area_of (g.V.View.size c.args.view.now) c.args.a n v).value) end

pub returns-clause-room : goal.returns-clause-room
returns-clause-room g c =
    let end : c.loop-i.i ≡ c.args.k = omega (arith, c.loop-i-test.false, c.loop-i.auto.i-end) in
    c.loop-i.invariant.room ∙ ap (λ (n : ℕ). n * g.V.View.size c.args.view.now) end

pub returns-clause-fetched : goal.returns-clause-fetched
returns-clause-fetched g c =
    fetches_along g.V.View.fetched (IsRest c.args.a c.loop-i.i c.args.block) (IsRest c.args.a c.args.k c.args.block) c.args.view.now c.loop-i.view
    (λ b h. record { from = h.from; to = (let low = h.to in omega (arith, low, c.loop-i.auto.i-end)); other = h.other }) c.loop-i.invariant.fetched
