use Rattle.std.proofs.Common.{◌∙◌, ◌<◌, ◌^◌, ◌-◌, List, refl, sym, subst}
use Rattle.std.specs.Prelude.{All}
use Rattle.dg_label.specs.LineLaws.{seal_on}
use Rattle.dg_model.specs.Tables.{Table}
use Rattle.dg_model.specs.declared.homes.Home.{Home}
use Rattle.dg_plan.specs.Targets.{wants_of}
use Rattle.dg_store.specs.Answers.{SameWritten}
use Rattle.dg_store.specs.Stores.{KeepsBlocks, TellsAll, members_of, shape_of, table_of}
use Rattle.dg_volume.proofs.ArrayLaws.{moved_both, no_plan_before, on_err, plan_before, read_both, told_moved}
use Rattle.dg_volume.proofs.MoveSteps.{check_refused, checked_over, keeps_of, leaves_over, loose_not_settled, moved_leaves, moved_over, read_over, ready_of, run_over, settle_cramped, settle_lost_first, settle_lost_moving, settle_lost_reading}
use Rattle.dg_volume.proofs.PlacedLaws.{few_missing}
use Rattle.dg_volume.proofs.SettleSteps.{put_in_place, rehomed, unlimited}
use Rattle.dg_volume.proofs.VolumeLaws.{leaves_none}
use Rattle.dg_volume.proofs.volumes.Volume.put_in_place.Goals as goal
use Rattle.dg_volume.specs.Volumes.{line_of}

pub returns-in-Some-clause-leaves : goal.returns-in-Some-clause-leaves
returns-in-Some-clause-leaves g c = leaves_none g.S.InPhase g.R.Rack c.args.self.now c.requires.well

pub returns-in-Some-clause-refused : goal.returns-in-Some-clause-refused
returns-in-Some-clause-refused g c = settle_lost_first g.S.InPhase g.R.Rack c.args.self.now c.in-Some.lost c.requires.well c.in-Some.ensures

-- ---- the check

pub returns-in_err-unsettled-clause-leaves : goal.returns-in_err-unsettled-clause-leaves
returns-in_err-unsettled-clause-leaves g c =
    let e = c.in_err-unsettled.ensures in
    leaves_over g.S.InPhase g.R.Rack c.args.self.now c.checked.new.store c.checked.new.levels c.requires.well e.levels e.reads

pub returns-in-Err-clause-leaves : goal.returns-in-Err-clause-leaves
returns-in-Err-clause-leaves g c =
    let e = c.in_ok-unsettled.ensures in
    leaves_over g.S.InPhase g.R.Rack c.args.self.now c.checked.new.store c.checked.new.levels c.requires.well e.levels e.reads

pub returns-in-Err-clause-refused : goal.returns-in-Err-clause-refused
returns-in-Err-clause-refused g c =
    let a = c.args.self.now in
    let e = c.in_ok-unsettled.ensures in
    let kept = c.in-Some-inference.inference.now in
    check_refused g.S.InPhase g.R.Rack a (record a { store = c.checked.new.store; levels = c.checked.new.levels }) kept c.in-Err.unsettled (ready_of g.S.InPhase g.R.Rack a c.requires.well c.requires.loose c.in_default.ensures)
    (keeps_of g.S.InPhase g.R.Rack a kept c.requires.well c.in-Some-inference.ensures.kept) (read_over g.S.InPhase g.R.Rack a c.checked.new.store c.checked.new.levels c.requires.well e.levels e.reads) (rw c.in-Err.is at e.answer)

-- ---- the plan

pub returns-in_err-lost-clause-leaves : goal.returns-in_err-lost-clause-leaves
returns-in_err-lost-clause-leaves g c =
    let a = c.args.self.now in
    let d = c.in_ok-unsettled.ensures in
    let e = c.in_err-lost.ensures in
    leaves_over g.S.InPhase g.R.Rack a c.planned.new.store c.planned.new.levels c.requires.well (e.levels ∙ d.levels) (read_both g.R.Rack a.store c.checked.new.store c.planned.new.store d.reads e.reads)

pub returns-in-Lost-clause-leaves : goal.returns-in-Lost-clause-leaves
returns-in-Lost-clause-leaves g c =
    let a = c.args.self.now in
    let d = c.in_ok-unsettled.ensures in
    let e = c.in_ok-lost.ensures in
    leaves_over g.S.InPhase g.R.Rack a c.planned.new.store c.planned.new.levels c.requires.well (e.levels ∙ d.levels) (read_both g.R.Rack a.store c.checked.new.store c.planned.new.store d.reads e.reads)

pub returns-in-Lost-clause-refused : goal.returns-in-Lost-clause-refused
returns-in-Lost-clause-refused g c =
    let a = c.args.self.now in
    let d = c.in_ok-unsettled.ensures in
    let e = c.in_ok-lost.ensures in
    settle_lost_reading g.S.InPhase g.R.Rack a (record a { store = c.planned.new.store; levels = c.planned.new.levels }) c.in-Lost.lost (ready_of g.S.InPhase g.R.Rack a c.requires.well c.requires.loose c.in_default.ensures)
    (read_over g.S.InPhase g.R.Rack a c.planned.new.store c.planned.new.levels c.requires.well (e.levels ∙ d.levels) (read_both g.R.Rack a.store c.checked.new.store c.planned.new.store d.reads e.reads))
    (rw c.in-Lost.is at e.answer)

pub returns-in-NoSpace-clause-leaves : goal.returns-in-NoSpace-clause-leaves
returns-in-NoSpace-clause-leaves g c =
    let a = c.args.self.now in
    let d = c.in_ok-unsettled.ensures in
    let e = c.in_ok-lost.ensures in
    leaves_over g.S.InPhase g.R.Rack a c.planned.new.store c.planned.new.levels c.requires.well (e.levels ∙ d.levels) (read_both g.R.Rack a.store c.checked.new.store c.planned.new.store d.reads e.reads)

pub returns-in-NoSpace-clause-refused : goal.returns-in-NoSpace-clause-refused
returns-in-NoSpace-clause-refused g c =
    let a = c.args.self.now in
    let first = c.checked.new.store in
    let mid = c.planned.new.store in
    let b = record a { store = mid; levels = c.planned.new.levels } in
    let d = c.in_ok-unsettled.ensures in
    let e = c.in_ok-lost.ensures in
    let kept = c.in-Some-inference.inference.now in
    settle_cramped g.S.InPhase g.R.Rack a b kept c.in-NoSpace.bad (ready_of g.S.InPhase g.R.Rack a c.requires.well c.requires.loose c.in_default.ensures) (keeps_of g.S.InPhase g.R.Rack a kept c.requires.well c.in-Some-inference.ensures.kept)
    (checked_over g.S.InPhase g.R.Rack a kept first mid b e.reads (λ told. told) (rw c.in_default-2.is at d.answer))
    (read_over g.S.InPhase g.R.Rack a mid b.levels c.requires.well (e.levels ∙ d.levels) (read_both g.R.Rack a.store first mid d.reads e.reads))
    (no_plan_before g.R.Rack a.store first mid kept a.homes c.in-NoSpace.bad d.reads (rw c.in-NoSpace.is at e.answer))

-- ---- the moves

pub move_within-requires-clause-seal : goal.move_within-requires-clause-seal
move_within-requires-clause-seal g c =
    let a = c.args.self.now in
    let read = read_both g.R.Rack a.store c.checked.new.store c.planned.new.store c.in_ok-unsettled.ensures.reads c.in_ok-lost.ensures.reads in
    seal_on (shape_of a.store) (shape_of c.planned.new.store) a.label read.reads.keeps.shape c.requires.well.labeled.sealed

pub returns-in_err-move_within-in-Found-clause-leaves : goal.returns-in_err-move_within-in-Found-clause-leaves
returns-in_err-move_within-in-Found-clause-leaves g c =
    let a = c.args.self.now in
    let mid = c.planned.new.store in
    let d = c.in_ok-unsettled.ensures in
    let e = c.in_ok-lost.ensures in
    let t = c.in_err-move_within-in-Found.ensures in
    let read = read_both g.R.Rack a.store c.checked.new.store mid d.reads e.reads in
    moved_leaves g.S.InPhase g.R.Rack a _ c.requires.well c.requires.loose
    (moved_over g.S.InPhase g.R.Rack a mid c.move_within.new.store c.move_within.new.label c.planned.new.levels c.requires.well (e.levels ∙ d.levels) read t.array t.written (t.label (line_of a)))

pub returns-in_err-move_within-in-Found-clause-err : goal.returns-in_err-move_within-in-Found-clause-err
returns-in_err-move_within-in-Found-clause-err g c =
    let a = c.args.self.now in
    let mid = c.planned.new.store in
    let last = c.move_within.new.store in
    let read = read_both g.R.Rack a.store c.checked.new.store mid c.in_ok-unsettled.ensures.reads c.in_ok-lost.ensures.reads in
    on_err c.from_residual-in_err-move_within-in-Found.result (TellsAll g.R.Rack last → KeepsBlocks g.R.Rack a.store last)
    (moved_both g.R.Rack a.store mid last read c.in_err-move_within-in-Found.ensures.array).stands

pub returns-in-Lost-2 : goal.returns-in-Lost-2
returns-in-Lost-2 g c =
    let a = c.args.self.now in
    let first = c.checked.new.store in
    let mid = c.planned.new.store in
    let last = c.move_within.new.store in
    let b = record a { store = last; label = c.move_within.new.label; levels = c.planned.new.levels } in
    let d = c.in_ok-unsettled.ensures in
    let e = c.in_ok-lost.ensures in
    let t = c.in_ok-move_within-in-Found.ensures in
    let targets = c.in-Found.targets in
    let kept = c.in-Some-inference.inference.now in
    let read = read_both g.R.Rack a.store first mid d.reads e.reads in
    let moves = moved_over g.S.InPhase g.R.Rack a mid last b.label b.levels c.requires.well (e.levels ∙ d.levels) read t.array t.written (t.label (line_of a)) in
    let plan = plan_before g.R.Rack a.store first mid kept a.homes targets d.reads (rw c.in-Found.is at e.answer) in
    let few = few_missing (wants_of targets) (table_of mid) e.reads.sound.table.shape in
    let ended = rw c.in-Lost-2.is at t.moves in
    record {
      leaves = moved_leaves g.S.InPhase g.R.Rack a b c.requires.well c.requires.loose moves;
      put = λ done. cc done;
      refused =
          settle_lost_moving g.S.InPhase g.R.Rack a kept targets mid b (run_over g.S.InPhase g.R.Rack a kept targets mid b c.requires.well c.in-Some-inference.ensures.kept read plan t.array moves)
          c.in-Lost-2.lost (ready_of g.S.InPhase g.R.Rack a c.requires.well c.requires.loose c.in_default.ensures)
          (checked_over g.S.InPhase g.R.Rack a kept first mid b e.reads (λ told. told_moved g.R.Rack mid last t.array told) (rw c.in_default-2.is at d.answer))
          refl (rw c.in-Lost-2.is at t.lost) (unlimited (wants_of targets) (2 ^ 32 - 1) (table_of mid) (table_of last) (members_of last)
          (c.limit_of_all.ensures.moves (wants_of targets) (2 ^ 32 - 1) (table_of mid) few) ended);
      err = tt;
      given = refl;
    }

pub returns-in-Tended : goal.returns-in-Tended
returns-in-Tended g c =
    let a = c.args.self.now in
    let first = c.checked.new.store in
    let mid = c.planned.new.store in
    let last = c.move_within.new.store in
    let b = record a { store = last; label = c.move_within.new.label; homes = c.into_homes.result; levels = c.planned.new.levels } in
    let d = c.in_ok-unsettled.ensures in
    let e = c.in_ok-lost.ensures in
    let t = c.in_ok-move_within-in-Found.ensures in
    let targets = c.in-Found.targets in
    let kept = c.in-Some-inference.inference.now in
    let read = read_both g.R.Rack a.store first mid d.reads e.reads in
    let plan = plan_before g.R.Rack a.store first mid kept a.homes targets d.reads (rw c.in-Found.is at e.answer) in
    let few = few_missing (wants_of targets) (table_of mid) e.reads.sound.table.shape in
    let small = subst (λ (x : List Home). All (λ (home : Home). home.inode < 2 ^ 32) x) c.as_slice.ensures c.inodes_fit.ensures in
    let moves = rehomed g.S.InPhase g.R.Rack a (record a { store = last; label = b.label; levels = b.levels }) mid kept targets b.homes
    (moved_over g.S.InPhase g.R.Rack a mid last b.label b.levels c.requires.well (e.levels ∙ d.levels) read t.array t.written (t.label (line_of a))) plan c.into_homes.ensures small in
    record {
      leaves = moved_leaves g.S.InPhase g.R.Rack a b c.requires.well c.requires.loose moves;
      put = λ done.
          put_in_place g.S.InPhase g.R.Rack a kept targets mid b (run_over g.S.InPhase g.R.Rack a kept targets mid b c.requires.well c.in-Some-inference.ensures.kept read plan t.array moves)
          c.in-Tended.moved c.in-Tended.left (2 ^ 32 - 1) (ready_of g.S.InPhase g.R.Rack a c.requires.well c.requires.loose c.in_default.ensures)
          (checked_over g.S.InPhase g.R.Rack a kept first mid b e.reads (λ told. told_moved g.R.Rack mid last t.array told) (rw c.in_default-2.is at d.answer))
          c.into_homes.ensures (c.requires.well.uncopied (λ settled. loose_not_settled (sym c.requires.loose ∙ settled)))
          (subst (λ (x : Table). SameWritten x (table_of last)) read.reads.table t.written)
          (rw c.in-Tended.is at t.lost) few (c.limit_of_all.ensures.moves (wants_of targets) (2 ^ 32 - 1) (table_of mid) few) (rw c.in-Tended.is at t.moves) t.still;
      refused = tt;
      err = tt;
      given = refl;
    }
