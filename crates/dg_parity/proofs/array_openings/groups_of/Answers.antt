use Rattle.std.proofs.Common.{List, [], ◌∷◌, length, ap, sym, subst, arith, length-append}
use Rattle.dg_parity.specs.Openings.{AreOpened, fronts_by}
use Rattle.dg_parity.specs.declared.groups.Group.{Group}
use Rattle.dg_parity.proofs.ArrayOpeningLemmas.{opened-push}
use Rattle.dg_parity.proofs.array_openings.groups_of.Goals as goal

pub loop-s-preserved : goal.loop-s-preserved
loop-s-preserved g c =
    let more = ap (λ (l : List Group). length l) c.in-Ok.ensures.items in
    record {
      count = omega (arith, more, length-append c.loop-s.groups.items (c.group_or_new-group.result ∷ []), c.loop-s.invariant.count);
      opened = subst (λ (l : List Group). AreOpened g.R.Rack c.args.rack.now (fronts_by c.args.rows.now) c.args.n l) (sym c.in-Ok.ensures.items)
          (opened-push g.R.Rack c.args.rack.now (fronts_by c.args.rows.now) c.args.n c.loop-s.s c.loop-s.groups.items c.group_or_new-group.result c.loop-s.invariant.count
          c.loop-s.invariant.opened c.group_or_new-group.ensures);
    }
