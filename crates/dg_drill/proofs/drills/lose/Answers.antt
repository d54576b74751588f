use Rattle.dg_drill.proofs.ChainLaws.{leaves_both}
use Rattle.dg_drill.proofs.DrillLaws.{lost_both}
use Rattle.dg_volume.specs.Replies.{fail_reply}
use Rattle.dg_drill.proofs.drills.lose.Goals as goal

pub returns-clause-leaves : goal.returns-clause-leaves
returns-clause-leaves g c = leaves_both g.R.Rack c.args.volume.now c.fail.new.self c.fail-2.new.self c.fail.ensures.leaves c.fail-2.ensures.leaves

pub returns-clause-runs : goal.returns-clause-runs
returns-clause-runs g c = λ state stands.
    lost_both g.R.Rack c.args.volume.now c.fail.new.self c.fail-2.new.self c.args.s (fail_reply c.fail.result) (fail_reply c.fail-2.result)
    c.fail-2.ensures.leaves c.fail.ensures.steps c.fail-2.ensures.steps state stands
