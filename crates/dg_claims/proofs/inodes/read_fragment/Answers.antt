use Rattle.dg_claims.proofs.FetchedLaws.{one_read}
use Rattle.dg_claims.specs.ThereLaws.{there_one}
use Rattle.dg_claims.proofs.inodes.read_fragment.Goals as goal

pub returns-clause-bytes : goal.returns-clause-bytes
returns-clause-bytes g c = one_read (g.V.View.size c.args.view.now) c.args.fragment c.read_aside.result c.read_aside.new.self.aside c.read_aside.ensures.rule

pub returns-clause-there : goal.returns-clause-there
returns-clause-there g c = there_one (g.V.View.size c.args.view.now) c.args.fragment c.read_aside.result c.read_aside.new.self.aside c.read_aside.ensures.rule
