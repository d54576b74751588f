use Rattle.std.proofs.Common.{[], ◌∷◌, refl, subst}
use Rattle.dg_io.specs.RackCalls.RackCall.{extends}
use Rattle.dg_io.specs.RackWords.{Leaves}
use Rattle.dg_regroup.proofs.LiveCalls.{leaves_through, made_through}
use Rattle.dg_regroup.proofs.live_racks.LiveRackRack.extend.Goals as goal

pub returns-in-Some-clause-leaves : goal.returns-in-Some-clause-leaves
returns-in-Some-clause-leaves g c =
    leaves_through g.R.Rack c.args.member c.extend.result c.args.self.now _ (record { live = refl; absent = refl; calls = refl; writes = refl }) (c.in-Some.ensures.there.0)
    (subst (λ q. Leaves g.R.Rack q c.extend.result c.args.self.now.rack c.extend.new.self) (c.in-Some.ensures.there.1) c.extend.ensures.leaves)

pub returns-in-Some-clause-made : goal.returns-in-Some-clause-made
returns-in-Some-clause-made g c =
    made_through g.R.Rack c.args.self.now _ (extends c.args.member) (record { live = refl; absent = refl; calls = refl; writes = refl }) (c.in-Some.ensures.there.0)
    (subst (λ q. g.R.Rack.made c.args.self.now.rack (extends q ∷ []) c.extend.new.self) (c.in-Some.ensures.there.1) c.extend.ensures.made)
