use Rattle.std.proofs.Common.{refl}
use Rattle.dg_label.specs.LineLaws.{seal_on}
use Rattle.dg_store.specs.Stores.{KeepsBlocks, TellsAll, shape_of}
use Rattle.dg_volume.proofs.ArrayLaws.{moved_both, on_err}
use Rattle.dg_volume.proofs.MoveSteps.{keeps_of, leaves_over, moved_leaves, moved_over, ran_over, read_over, ready_of, tend_cramped, tend_done, tend_lost_first, tend_lost_moving, tend_lost_reading}
use Rattle.dg_volume.proofs.VolumeLaws.{leaves_none}
use Rattle.dg_volume.proofs.volumes.Volume.tend_loose.Goals as goal
use Rattle.dg_volume.specs.Volumes.{line_of}

pub returns-in-Some-clause-leaves : goal.returns-in-Some-clause-leaves
returns-in-Some-clause-leaves g c = leaves_none g.S.InPhase g.R.Rack c.args.self.now c.requires.well

pub returns-in-Some-clause-steps : goal.returns-in-Some-clause-steps
returns-in-Some-clause-steps g c = tend_lost_first g.S.InPhase g.R.Rack c.args.self.now c.args.limit c.in-Some.lost c.requires.well c.in-Some.ensures

-- ---- the plan

pub returns-in_err-lost-clause-leaves : goal.returns-in_err-lost-clause-leaves
returns-in_err-lost-clause-leaves g c =
    let e = c.in_err-lost.ensures in
    leaves_over g.S.InPhase g.R.Rack c.args.self.now c.planned.new.store c.planned.new.levels c.requires.well e.levels e.reads

pub returns-in-Lost-clause-leaves : goal.returns-in-Lost-clause-leaves
returns-in-Lost-clause-leaves g c =
    let e = c.in_ok-lost.ensures in
    leaves_over g.S.InPhase g.R.Rack c.args.self.now c.planned.new.store c.planned.new.levels c.requires.well e.levels e.reads

pub returns-in-Lost-clause-steps : goal.returns-in-Lost-clause-steps
returns-in-Lost-clause-steps g c =
    let a = c.args.self.now in
    let e = c.in_ok-lost.ensures in
    tend_lost_reading g.S.InPhase g.R.Rack a (record a { store = c.planned.new.store; levels = c.planned.new.levels }) c.args.limit c.in-Lost.lost (ready_of g.S.InPhase g.R.Rack a c.requires.well c.requires.loose c.in_default.ensures)
    (read_over g.S.InPhase g.R.Rack a c.planned.new.store c.planned.new.levels c.requires.well e.levels e.reads) (rw c.in-Lost.is at e.answer)

pub returns-in-NoSpace-clause-leaves : goal.returns-in-NoSpace-clause-leaves
returns-in-NoSpace-clause-leaves g c =
    let e = c.in_ok-lost.ensures in
    leaves_over g.S.InPhase g.R.Rack c.args.self.now c.planned.new.store c.planned.new.levels c.requires.well e.levels e.reads

pub returns-in-NoSpace-clause-steps : goal.returns-in-NoSpace-clause-steps
returns-in-NoSpace-clause-steps g c =
    let a = c.args.self.now in
    let e = c.in_ok-lost.ensures in
    let kept = c.in-Some-inference.inference.now in
    tend_cramped g.S.InPhase g.R.Rack a (record a { store = c.planned.new.store; levels = c.planned.new.levels }) kept c.args.limit c.in-NoSpace.bad (ready_of g.S.InPhase g.R.Rack a c.requires.well c.requires.loose c.in_default.ensures)
    (keeps_of g.S.InPhase g.R.Rack a kept c.requires.well c.in-Some-inference.ensures.kept) (read_over g.S.InPhase g.R.Rack a c.planned.new.store c.planned.new.levels c.requires.well e.levels e.reads) (rw c.in-NoSpace.is at e.answer)

-- ---- the moves

pub move_within-requires-clause-seal : goal.move_within-requires-clause-seal
move_within-requires-clause-seal g c =
    let a = c.args.self.now in
    seal_on (shape_of a.store) (shape_of c.planned.new.store) a.label c.in_ok-lost.ensures.reads.reads.keeps.shape c.requires.well.labeled.sealed

pub returns-in_err-moved-in-Found-clause-leaves : goal.returns-in_err-moved-in-Found-clause-leaves
returns-in_err-moved-in-Found-clause-leaves g c =
    let a = c.args.self.now in
    let e = c.in_ok-lost.ensures in
    let t = c.in_err-moved-in-Found.ensures in
    moved_leaves g.S.InPhase g.R.Rack a _ c.requires.well c.requires.loose
    (moved_over g.S.InPhase g.R.Rack a c.planned.new.store c.move_within.new.store c.move_within.new.label c.planned.new.levels c.requires.well e.levels e.reads t.array t.written (t.label (line_of a)))

pub returns-in_err-moved-in-Found-clause-err : goal.returns-in_err-moved-in-Found-clause-err
returns-in_err-moved-in-Found-clause-err g c =
    let a = c.args.self.now in
    let last = c.move_within.new.store in
    on_err c.from_residual-in_err-moved-in-Found.result (TellsAll g.R.Rack last → KeepsBlocks g.R.Rack a.store last)
    (moved_both g.R.Rack a.store c.planned.new.store last c.in_ok-lost.ensures.reads c.in_err-moved-in-Found.ensures.array).stands

pub returns-in-Tended : goal.returns-in-Tended
returns-in-Tended g c =
    let a = c.args.self.now in
    let mid = c.planned.new.store in
    let b = record a { store = c.move_within.new.store; label = c.move_within.new.label; levels = c.planned.new.levels } in
    let e = c.in_ok-lost.ensures in
    let t = c.in_ok-moved-in-Found.ensures in
    let kept = c.in-Some-inference.inference.now in
    let run = ran_over g.S.InPhase g.R.Rack a kept c.in-Found.targets mid b.store b.label b.levels c.requires.well c.in-Some-inference.ensures.kept e.levels e.reads (rw c.in-Found.is at e.answer) t.array t.written (t.label (line_of a)) in
    record {
      leaves = moved_leaves g.S.InPhase g.R.Rack a b c.requires.well c.requires.loose run.moves;
      steps =
          tend_done g.S.InPhase g.R.Rack a kept c.in-Found.targets mid b run c.args.limit c.in-Tended.moved c.in-Tended.left (ready_of g.S.InPhase g.R.Rack a c.requires.well c.requires.loose c.in_default.ensures) refl (rw c.in-Tended.is at t.lost)
          (rw c.in-Tended.is at t.moves) t.still;
      err = tt;
      given = refl;
    }

pub returns : goal.returns
returns g c =
    let a = c.args.self.now in
    let mid = c.planned.new.store in
    let b = record a { store = c.move_within.new.store; label = c.move_within.new.label; levels = c.planned.new.levels } in
    let e = c.in_ok-lost.ensures in
    let t = c.in_ok-moved-in-Found.ensures in
    let kept = c.in-Some-inference.inference.now in
    let run = ran_over g.S.InPhase g.R.Rack a kept c.in-Found.targets mid b.store b.label b.levels c.requires.well c.in-Some-inference.ensures.kept e.levels e.reads (rw c.in-Found.is at e.answer) t.array t.written (t.label (line_of a)) in
    record {
      leaves = moved_leaves g.S.InPhase g.R.Rack a b c.requires.well c.requires.loose run.moves;
      steps =
          tend_lost_moving g.S.InPhase g.R.Rack a kept c.in-Found.targets mid b run c.args.limit c.in-Lost-2.lost (ready_of g.S.InPhase g.R.Rack a c.requires.well c.requires.loose c.in_default.ensures) refl (rw c.in-Lost-2.is at t.lost)
          (rw c.in-Lost-2.is at t.moves);
      err = tt;
      given = refl;
    }
