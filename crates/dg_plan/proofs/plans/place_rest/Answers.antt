use Rattle.std.proofs.Common.{◌≡◌, length, ap, ◌∙◌}
use Rattle.std.proofs.lemmas.List.{length-replicate}
use Rattle.dg_plan.proofs.PlanLaws.{targets_by_marks}
use Rattle.dg_plan.proofs.plans.place_rest.Goals as goal

pub returns : goal.returns
returns c =
    let n = c.args.shape.now.n in
    let seated = c.place_strays.ensures.placed c.if-not-place_strays.false in
    let size : length c.mark_blocks.new.marks.items ≡ n = c.mark_blocks.ensures.size ∙ seated.size ∙ ap length c.in_ok-marks.ensures ∙ length-replicate n 0 in
    targets_by_marks c.args.shape.now c.args.wants.now c.args.placing c.place_strays.new.rooms.items c.place_strays.new.marks.items c.in_ok-marks.marks.items c.mark_blocks.new.marks.items _
    c.requires.wants c.in_ok-marks.ensures seated size c.mark_blocks.ensures.marked c.new.ensures.numbers c.in_ok-homes.ensures.list c.new.ensures.bits c.in_ok-homes.ensures.ascend
