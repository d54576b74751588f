use Rattle.std.proofs.Common.{[], ◌∷◌, refl, subst}
use Rattle.dg_io.specs.RackCalls.RackCall.{blanks}
use Rattle.dg_io.specs.Kept.{KeepsRest}
use Rattle.dg_io.specs.RackWords.{Leaves}
use Rattle.dg_regroup.proofs.LiveCalls.{leaves_through, made_through, rests_beside, rests_through}
use Rattle.dg_regroup.proofs.live_racks.LiveRackRack.blank.Goals as goal

pub returns-in-Some-clause-leaves : goal.returns-in-Some-clause-leaves
returns-in-Some-clause-leaves g c =
    leaves_through g.R.Rack c.args.member c.blank.result c.args.self.now _ (record { live = refl; absent = refl; calls = refl; writes = refl }) (c.in-Some.ensures.there.0)
    (subst (λ q. Leaves g.R.Rack q c.blank.result c.args.self.now.rack c.blank.new.self) (c.in-Some.ensures.there.1) c.blank.ensures.leaves)

pub returns-in-Some-clause-made : goal.returns-in-Some-clause-made
returns-in-Some-clause-made g c =
    made_through g.R.Rack c.args.self.now _ (blanks c.args.member) (record { live = refl; absent = refl; calls = refl; writes = refl }) (c.in-Some.ensures.there.0)
    (subst (λ q. g.R.Rack.made c.args.self.now.rack (blanks q ∷ []) c.blank.new.self) (c.in-Some.ensures.there.1) c.blank.ensures.made)

pub returns-in-Some-clause-keeps : goal.returns-in-Some-clause-keeps
returns-in-Some-clause-keeps g c =
    rests_through g.R.Rack c.args.self.now _ c.args.member refl (c.in-Some.ensures.there.0)
    (subst (λ q. KeepsRest g.R.Rack.keeps g.R.Rack.stands q c.args.self.now.rack c.blank.new.self) (c.in-Some.ensures.there.1) c.blank.ensures.keeps)

pub returns-in-None-clause-keeps : goal.returns-in-None-clause-keeps
returns-in-None-clause-keeps g c = rests_beside g.R.Rack c.args.self.now _ c.args.member c.refuse_write.ensures.own c.in-None.ensures.absent
