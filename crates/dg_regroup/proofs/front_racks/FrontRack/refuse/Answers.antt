use Rattle.std.proofs.Common.{inr, refl, rules}
use Rattle.dg_io.specs.RackCalls.RackCall.{calls, extends}
use Rattle.dg_regroup.proofs.FrontCalls.{not_none, passed_as}
use Rattle.dg_regroup.proofs.front_racks.FrontRack.refuse.Goals as goal

pub returns-clause-made : goal.returns-clause-made
returns-clause-made g c =
    passed_as g.R.Rack (extends c.args.member) (calls c.args.member) (inr refl) c.args.self.now _ refl refl (search rules) (search rules) (search rules) (λ is. absurd is) (λ is. absurd is) (λ is. absurd (not_none _ c.requires.some is)) (λ is. absurd (not_none _ c.requires.some is))
    (λ is. absurd (not_none _ c.requires.some is)) c.read.ensures.made

pub returns-in_err-read-clause-made : goal.returns-in_err-read-clause-made
returns-in_err-read-clause-made g c =
    passed_as g.R.Rack (extends c.args.member) (calls c.args.member) (inr refl) c.args.self.now _ refl refl (search rules) (search rules) (search rules) (λ is. absurd is) (λ is. absurd is) (λ is. absurd (not_none _ c.requires.some is)) (λ is. absurd (not_none _ c.requires.some is))
    (λ is. absurd (not_none _ c.requires.some is)) c.read.ensures.made
