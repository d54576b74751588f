use Rattle.std.proofs.Common.{ap, arith}
use Rattle.dg_model.specs.declared.shapes.Shape.{Shape}
use Rattle.dg_store.specs.Stores.{members_of, shape_of}
use Rattle.dg_volume.proofs.CommitLaws.{good_begins, good_ends, good_step}
use Rattle.dg_volume.proofs.commits.good_members.Goals as goal

pub loop-member-init : goal.loop-member-init
loop-member-init g c = good_begins (members_of c.args.store.now)

pub loop-member-preserved : goal.loop-member-preserved
loop-member-preserved g c =
    good_step (members_of c.args.store.now) c.loop-member.member c.loop-member.marks c.mark_if_good-marks.result c.loop-member.invariant
    c.mark_if_good-marks.ensures.good c.mark_if_good-marks.ensures.other

pub returns : goal.returns
returns g c =
    let b = ap (λ (shape : Shape). shape.b) c.shape.ensures in
    good_ends (members_of c.args.store.now) (shape_of c.args.store.now).b c.loop-member.member c.loop-member.marks (omega (arith, b)) c.requires.others c.loop-member.invariant
