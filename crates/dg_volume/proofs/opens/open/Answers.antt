use Rattle.std.proofs.Common.{subst}
use Rattle.dg_open.specs.Reopenings.{AnswersReopen}
use Rattle.dg_open.specs.declared.reopens.ReopenAnswer.{ReopenAnswer}
use Rattle.dg_volume.proofs.BesideSteps.{opens_all}
use Rattle.dg_volume.proofs.opens.open.Goals as goal

pub returns-in_ok-volume-in-Found : goal.returns-in_ok-volume-in-Found
returns-in_ok-volume-in-Found g c =
    let found = subst (λ (answer : ReopenAnswer g.row.R.Denot). AnswersReopen g.R.Rack c.args.rack answer) c.in-Found.is c.in_ok-rack.ensures in
    opens_all g.R.Rack c.blocks_have_one_owner.ensures.one c.blocks_have_one_owner.ensures.system c.args.rack c.in-Found.reopened c.in_ok-volume-in-Found.volume
    c.in_ok-volume-in-Found.hot found c.in_ok-volume-in-Found.ensures.made c.in_ok-volume-in-Found.ensures.in_use
