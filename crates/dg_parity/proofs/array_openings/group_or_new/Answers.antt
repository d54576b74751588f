use Rattle.std.proofs.Common.{inl}
use Rattle.dg_parity.specs.Openings.{fronts_in}
use Rattle.dg_parity.proofs.JudgedLemmas.{judged-opened}
use Rattle.dg_parity.proofs.array_openings.group_or_new.Goals as goal

pub returns-in-Some : goal.returns-in-Some
returns-in-Some g c =
    inl (judged-opened g.R.Rack c.args.rack.now (fronts_in c.args.row.now) c.args.n c.args.s c.in-Some.group c.judge.result c.in-Some.ensures.opened c.judge.ensures.same c.judge.ensures.sure)
