use Rattle.std.proofs.Common.{◌<◌, ℕ, Bool, List, inl, inr, refl, sym, subst, arith}
use Rattle.std.specs.Prelude.{IfSome}
use Rattle.dg_volume.proofs.OpenedSeals.{opened_by}
use Rattle.dg_volume.proofs.RebuildSteps.{CallsRebuild, HasRebuilt, opened_leaves, opened_spares, quiet_rack, rebuild_leaves, rebuild_spares, rebuild_steps, rebuilt_labels, steps_ended, steps_unused}
use Rattle.dg_volume.specs.Phases.{CanReapAll}
use Rattle.dg_volume.specs.Refills.{AreReapMarks}
use Rattle.dg_volume.proofs.VolumeLaws.{leaves_none}
use Rattle.dg_volume.proofs.volumes.Volume.rebuild.Goals as goal
use Rattle.dg_model.specs.declared.shapes.Shape.{Shape}
use Rattle.dg_volume.specs.Volumes.{FitsArray, line_of}

pub returns : goal.returns
returns g c =
    let a = c.args.self.now in
    let m = c.open_refill-ended.new.store in
    let marks = c.deref.result.now in
    let before = c.new-reaped.result.items in
    let after = c.rebuild-refilled.new.reaped.items in
    let result = c.rebuild-refilled.result in
    let b = record a { store = c.rebuild-refilled.new.store; label = c.open_refill-ended.new.label; phase = c.reaped.new.self } in
    let o = c.open_refill-ended.ensures (line_of a) in
    let k = c.rebuild-refilled.ensures in
    let call : CallsRebuild g.S.InPhase g.R.Rack m c.in-Some.place c.args.limit marks before after result c.rebuild-refilled.new.store = record {
      sound = k.sound;
      left = k.stays;
      lost = k.lost;
      other = k.other;
      not_filling = k.not_filling;
      quiet = k.quiet;
      copied = k.copied;
      failed = k.failed;
      broken = k.broken;
      err = k.err;
    } in
    let h : HasRebuilt g.S.InPhase g.R.Rack a m c.in-Some.place c.args.limit marks before after result b = record {
      number = c.args.boundary;
      place = record { number = omega arith; is = c.in-Some.ensures.some; within = omega (arith, c.in-Some.ensures.within, c.requires.well.in_use.number) };
      beside = record { phase_is = c.reaped.ensures.same; pending = refl; homes = refl; copies = refl; in_use = refl };
      levels = refl;
      none = c.new-reaped.ensures.items;
      opening = o.array;
      same = λ none. o.same c.in_default-ended.is none;
      labels = rebuilt_labels g.S.InPhase g.R.Rack a m c.in-Some.place c.args.limit marks before after result c.rebuild-refilled.new.store c.open_refill-ended.new.label o.array call o.labels
          (λ closed. elim (o.quiet closed) [
            | inl zero ↦ k.still zero
            | inr none ↦ quiet_rack g.S.InPhase g.R.Rack m c.in-Some.place c.args.limit marks before after result c.rebuild-refilled.new.store call none
          ]);
      can = subst (λ (xs : List ℕ). IfSome (g.S.InPhase.kept a.phase) (λ inference. CanReapAll inference xs)) c.deref-2.ensures.value c.reaped.ensures.stands;
      marks_are = subst (λ (xs : List Bool). AreReapMarks m (g.S.InPhase.phase a.phase) (g.S.InPhase.kept a.phase) xs) (sym c.deref.ensures.value) c.in_ok-dead.ensures;
      call = call;
    } in
    record {
      leaves = rebuild_leaves g.S.InPhase g.R.Rack a m c.in-Some.place c.args.limit marks before after result b c.requires.well h;
      steps = rw c.told.ensures (rebuild_steps g.S.InPhase g.R.Rack a m c.in-Some.place c.args.limit marks before after result b c.requires.well h);
      spares = rebuild_spares g.S.InPhase g.R.Rack c.change_of_loose_blocks.ensures a m c.in-Some.place c.args.limit marks before after result b c.requires.well h;
      given = refl;
    }

pub returns-in-Some-ended : goal.returns-in-Some-ended
returns-in-Some-ended g c =
    let a = c.args.self.now in
    let b = record a { store = c.open_refill-ended.new.store; label = c.open_refill-ended.new.label } in
    let e = c.in-Some-ended.ensures (line_of a) in
    let o = c.open_refill-ended.ensures (line_of a) in
    let opened = opened_by g.S.InPhase g.R.Rack a c.open_refill-ended.new.store c.open_refill-ended.new.label c.requires.well o.array o.labels in
    record {
      leaves = opened_leaves g.S.InPhase g.R.Rack a b c.requires.well opened;
      steps =
          rw c.rebuilt.ensures
          (steps_ended g.S.InPhase g.R.Rack a b c.in-Some.place c.args.limit c.in-Some-ended.answer
          (record {
            number = c.args.boundary;
            place = record { number = omega arith; is = c.in-Some.ensures.some; within = omega (arith, c.in-Some.ensures.within, c.requires.well.in_use.number) };
            sound = c.requires.well.array;
            was = e.was;
            none = e.none;
            opened = opened;
          })
          e.lost e.fell);
      spares = opened_spares g.S.InPhase g.R.Rack c.change_of_loose_blocks.ensures a b opened;
      given = refl;
    }

pub returns-in_err-dead-clause-leaves : goal.returns-in_err-dead-clause-leaves
returns-in_err-dead-clause-leaves g c =
    let a = c.args.self.now in
    let o = c.open_refill-ended.ensures (line_of a) in
    opened_leaves g.S.InPhase g.R.Rack a _ c.requires.well (opened_by g.S.InPhase g.R.Rack a c.open_refill-ended.new.store c.open_refill-ended.new.label c.requires.well o.array o.labels)

pub returns-in_err-dead-clause-spares : goal.returns-in_err-dead-clause-spares
returns-in_err-dead-clause-spares g c =
    let a = c.args.self.now in
    let o = c.open_refill-ended.ensures (line_of a) in
    opened_spares g.S.InPhase g.R.Rack c.change_of_loose_blocks.ensures a _ (opened_by g.S.InPhase g.R.Rack a c.open_refill-ended.new.store c.open_refill-ended.new.label c.requires.well o.array o.labels)

pub returns-then-boundary-self-clause-leaves : goal.returns-then-boundary-self-clause-leaves
returns-then-boundary-self-clause-leaves g c = leaves_none g.S.InPhase g.R.Rack c.args.self.now c.requires.well

pub returns-in_default-clause-leaves : goal.returns-in_default-clause-leaves
returns-in_default-clause-leaves g c = leaves_none g.S.InPhase g.R.Rack c.args.self.now c.requires.well

pub returns-in_default-clause-steps : goal.returns-in_default-clause-steps
returns-in_default-clause-steps g c =
    steps_unused g.S.InPhase g.R.Rack c.args.self.now c.args.boundary c.args.limit c.requires.well (record { number = omega arith; is = c.in_default.ensures.none })

pub place-requires : goal.place-requires
place-requires g c =
    let most = c.requires.well.array.table.shape.most_boundaries in
    omega (arith, c.requires.well.in_use.number, most)

pub reap_marks-requires-clause-sound : goal.reap_marks-requires-clause-sound
reap_marks-requires-clause-sound g c = let o = c.open_refill-ended.ensures (line_of c.args.self.now) in o.array.sound

pub reap_marks-requires-clause-fits : goal.reap_marks-requires-clause-fits
reap_marks-requires-clause-fits g c =
    let a = c.args.self.now in
    let o = c.open_refill-ended.ensures (line_of a) in
    subst (λ (x : Shape). IfSome (g.S.InPhase.kept a.phase) (FitsArray x)) (sym o.array.stays.shape) c.requires.well.inferred

pub rebuild-refilled-requires-clause-sound : goal.rebuild-refilled-requires-clause-sound
rebuild-refilled-requires-clause-sound g c = let o = c.open_refill-ended.ensures (line_of c.args.self.now) in o.array.sound

pub rebuild-refilled-requires-clause-boundary : goal.rebuild-refilled-requires-clause-boundary
rebuild-refilled-requires-clause-boundary g c =
    let o = c.open_refill-ended.ensures (line_of c.args.self.now) in
    subst (λ (x : Shape). c.in-Some.place < x.b) (sym o.array.stays.shape) (omega (arith, c.in-Some.ensures.within, c.requires.well.in_use.number))
