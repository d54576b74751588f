use Rattle.std.proofs.Common.{◌≡◌, ap, arith}
use Rattle.dg_model.specs.declared.shapes.Shape.{Shape}
use Rattle.dg_stop.specs.StopRacks.{stop_room, stop_words}
use Rattle.dg_store.specs.Leaves.{IsCallBelow}
use Rattle.dg_volume.specs.Volumes.{any_phase, loose_phase}
use Rattle.dg_volume_tests.proofs.RoomLemmas.{blank_roomy, stays_roomy}
use Rattle.dg_volume_tests.proofs.double_commits.blank.Goals as goal

pub returns-in-Ok : goal.returns-in-Ok
returns-in-Ok g c =
    let number : c.in-Some.shape.n ≡ 8 = ap (λ (s : Shape). s.n) c.in-Some.ensures.numbers in
    let d = c.in_ok-double in
    let b = c.in-Ok in
    let made = blank_roomy g.R.Rack c.in-Some.shape c.args.rack 4 22000 62 d.double b.volume d.ensures.new (omega (arith, number)) b.ensures in
    stays_roomy loose_phase any_phase (stop_words g.R.Rack) stop_room IsCallBelow b.volume c.into_any.result c.into_any.ensures.leaves made
