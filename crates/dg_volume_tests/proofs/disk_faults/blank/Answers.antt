use Rattle.std.proofs.Common.{◌≤◌, ap, arith}
use Rattle.dg_model.specs.declared.shapes.Shape.{Shape}
use Rattle.dg_volume.specs.Volumes.{any_phase, loose_phase}
use Rattle.dg_volume_tests.proofs.GroupedLemmas.{blank_grouped, stays_grouped}
use Rattle.dg_volume_tests.proofs.disk_faults.blank.Goals as goal

pub returns-in-Ok : goal.returns-in-Ok
returns-in-Ok g c =
    let few : c.in-Some.shape.b ≤ 2 = omega (arith, ap (λ (s : Shape). s.b) c.in-Some.ensures.numbers) in
    let b = c.in-Ok in
    let made = blank_grouped g.R.Rack c.in-Some.shape c.args.rack 2 3 c.in_ok-groups.groups b.volume c.in_ok-groups.ensures few b.ensures in
    stays_grouped loose_phase any_phase g.R.Rack b.volume c.into_any.result c.into_any.ensures.leaves made
