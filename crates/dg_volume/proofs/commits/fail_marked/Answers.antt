use Rattle.std.proofs.Common.{ap, arith}
use Rattle.dg_model.specs.declared.shapes.Shape.{Shape}
use Rattle.dg_store.specs.Stores.{shape_of}
use Rattle.dg_volume.proofs.CommitLaws.{failed_begins, failed_ends, failed_step}
use Rattle.dg_volume.proofs.commits.fail_marked.Goals as goal

pub loop-member-init : goal.loop-member-init
loop-member-init g c = failed_begins g.R.Rack c.args.marks c.args.store.now c.requires.whole

pub loop-member-preserved : goal.loop-member-preserved
loop-member-preserved g c =
    let e = c.fail_if_marked.ensures in
    failed_step g.R.Rack c.args.marks c.loop-member.member c.args.store.now c.loop-member.store c.fail_if_marked.new.store c.loop-member.invariant e.whole e.rack e.table e.blocks
    e.marked e.other

pub returns : goal.returns
returns g c =
    let b = ap (λ (shape : Shape). shape.b) c.shape.ensures in
    failed_ends g.R.Rack c.args.marks (shape_of c.args.store.now).b c.loop-member.member c.args.store.now c.loop-member.store (omega (arith, b)) c.requires.below
    c.loop-member.invariant
