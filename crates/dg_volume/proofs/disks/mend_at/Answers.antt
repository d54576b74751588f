use Rattle.std.proofs.Common.{◌<◌, Bool, sym, ap, subst}
use Rattle.std.specs.Prelude.{IfSome}
use Rattle.dg_io.specs.DiskAnswers.{MendsDisk}
use Rattle.dg_io.specs.Disks.{DiskStates}
use Rattle.dg_model.specs.Tables.{Table}
use Rattle.dg_store.specs.Stores.{members_of, rack_of}
use Rattle.dg_volume.proofs.DiskLaws.{handles_then}
use Rattle.dg_volume.proofs.disks.mend_at.Goals as goal
use Rattle.dg_volume.specs.Disks.{FailsWhere, mend_loses}

pub fail_where-requires-clause-sound : goal.fail_where-requires-clause-sound
fail_where-requires-clause-sound g c = c.mend-answer.ensures.leaves.sound c.requires.sound

pub fail_where-requires-clause-place : goal.fail_where-requires-clause-place
fail_where-requires-clause-place g c = subst (λ (t : Table). c.args.place < t.shape.b) (sym c.mend-answer.ensures.leaves.table) c.requires.place

pub returns-clause-answer : goal.returns-clause-answer
returns-clause-answer g c =
    let before = rack_of c.args.store.now in
    subst (λ (states : DiskStates). IfSome (g.R.Disks.width before) (λ n. MendsDisk n c.args.place c.args.disk (g.R.Rack.disks before) states c.mend-answer.result))
    (sym (ap g.R.Rack.disks c.fail_where.ensures.rack)) c.mend-answer.ensures.answer

pub returns-clause-handles : goal.returns-clause-handles
returns-clause-handles g c =
    let mid = c.mend-answer.new.self in
    let f = c.fail_where.ensures in
    handles_then g.R.Rack g.R.Disks.width g.R.Disks.groups c.args.place c.args.disk (mend_loses c.mend-answer.result) c.args.store.now mid c.fail_where.new.store
    c.mend-answer.ensures.leaves f.sound f.rack f.table
    (subst (λ (fails : Bool). FailsWhere fails c.args.place (members_of mid) (members_of c.fail_where.new.store)) c.is_lost_by_mend.ensures f.members) f.blocks
