use Rattle.std.proofs.Common.{length, refl}
use Rattle.dg_io.specs.Reduced.{places_left}
use Rattle.dg_regroup.proofs.LeftLemmas.{leaves_left, left_ascends, left_few, places_ascend, places_low}
use Rattle.dg_regroup.proofs.live_racks.LiveRackReduces.drop_lost.Goals as goal

pub invariant_of-self : goal.invariant_of-self
invariant_of-self g c =
    let live = c.args.self.now.live.items in
    let left = places_left c.args.lost (length live) in
    let low = places_low c.args.lost (length live) in
    rw c.drop_marked.ensures (record {
      ascend = left_ascends left live c.args.self.now.ascend (places_ascend c.args.lost (length live)) low;
      few = left_few left live 16 c.args.self.now.few low;
    })

pub returns-clause-leaves : goal.returns-clause-leaves
returns-clause-leaves g c =
    let live = c.args.self.now.live.items in
    leaves_left g.R.Rack (places_left c.args.lost (length live)) c.args.self.now _ refl refl refl c.drop_marked.ensures (places_low c.args.lost (length live))
