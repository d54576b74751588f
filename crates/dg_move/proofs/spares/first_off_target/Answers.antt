use Rattle.std.proofs.Common.{refl, get_or, sym, ◌∙◌}
use Rattle.dg_plan.specs.Targets.{wants_of}
use Rattle.dg_model.specs.declared.sites.Site.{Site}
use Rattle.dg_move.proofs.MeetLaws.{off_target_at}
use Rattle.dg_move.proofs.spares.first_off_target.Goals as goal

pub returns-then-not-wants : goal.returns-then-not-wants
returns-then-not-wants c =
    let d : Site = record { boundary = 0; slot = 0 } in
    let s = off_target_at (wants_of c.args.targets.now c.args.block) c.args.sites.now c.loop-site.site-index d c.loop-site-test.true c.loop-site.invariant (sym c.wants.ensures ∙ c.if-not-wants.true) in
    (get_or c.args.sites.now c.loop-site.site-index d, s.0, s.1, refl)
