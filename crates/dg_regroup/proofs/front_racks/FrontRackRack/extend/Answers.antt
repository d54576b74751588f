use Rattle.std.proofs.Common.{arith, inl, refl}
use Rattle.dg_io.specs.RackCalls.RackCall.{extends}
use Rattle.dg_regroup.proofs.FrontCalls.{passed_as, unseen_by}
use Rattle.dg_regroup.proofs.front_racks.FrontRackRack.extend.Goals as goal

pub returns-clause-made : goal.returns-clause-made
returns-clause-made g c =
    passed_as g.R.Rack (extends c.args.member) (extends c.args.member) (inl refl) c.args.self.now _ refl refl (λ q. omega arith) (λ q far. refl) (omega arith) (λ is. refl) (λ is. refl) (λ is. refl) (λ is. refl)
    (unseen_by g.R.Rack c.args.member c.args.self.now _ c.requires.stands c.extend.ensures.leaves.others) c.extend.ensures.made
