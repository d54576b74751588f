use Rattle.std.proofs.Common.{refl, arith}
use Rattle.dg_volume.proofs.VolumeSteps.{fail_leaves, failed_by, steps_already, steps_struck, steps_unused}
use Rattle.dg_volume.proofs.VolumeLaws.{leaves_none}
use Rattle.dg_volume.proofs.volumes.Volume.fail.Goals as goal

pub returns-in-Already : goal.returns-in-Already
returns-in-Already g c =
    let a = c.args.self.now in
    let b = record a { store = c.fail.new.self } in
    let k = c.in-Already.ensures in
    let h = failed_by g.S.InPhase g.R.Rack a c.args.boundary c.in-Some.place c.args.side c.fail.new.self c.requires.well
    (record { number = omega arith; is = c.in-Some.ensures.some; within = omega (arith, c.in-Some.ensures.within, c.requires.well.in_use.number) }) (omega arith) k.sound k.rack k.table k.struck k.stands in
    record {
      leaves = fail_leaves g.S.InPhase g.R.Rack a c.in-Some.place c.args.side b c.requires.well h;
      steps = steps_already g.S.InPhase g.R.Rack a c.in-Some.place c.args.side b h c.requires.well.array (k.already.0 refl);
      given = refl;
    }

pub returns-in-Taken : goal.returns-in-Taken
returns-in-Taken g c =
    let a = c.args.self.now in
    let b = record a { store = c.fail.new.self } in
    let k = c.in-Taken.ensures in
    let h = failed_by g.S.InPhase g.R.Rack a c.args.boundary c.in-Some.place c.args.side c.fail.new.self c.requires.well
    (record { number = omega arith; is = c.in-Some.ensures.some; within = omega (arith, c.in-Some.ensures.within, c.requires.well.in_use.number) }) (omega arith) k.sound k.rack k.table k.struck k.stands in
    record {
      leaves = fail_leaves g.S.InPhase g.R.Rack a c.in-Some.place c.args.side b c.requires.well h;
      steps = steps_struck g.S.InPhase g.R.Rack a c.in-Some.place c.args.side b h (λ out. cc (k.already.1 out));
      given = refl;
    }

pub returns-then-boundary-self-clause-leaves : goal.returns-then-boundary-self-clause-leaves
returns-then-boundary-self-clause-leaves g c = leaves_none g.S.InPhase g.R.Rack c.args.self.now c.requires.well

pub returns-in_default-clause-leaves : goal.returns-in_default-clause-leaves
returns-in_default-clause-leaves g c = leaves_none g.S.InPhase g.R.Rack c.args.self.now c.requires.well

pub returns-in_default-clause-steps : goal.returns-in_default-clause-steps
returns-in_default-clause-steps g c =
    steps_unused g.S.InPhase g.R.Rack c.args.self.now c.args.boundary c.args.side c.requires.well (record { number = omega arith; is = c.in_default.ensures.none }) (omega arith)

pub place-requires : goal.place-requires
place-requires g c =
    let most = c.requires.well.array.table.shape.most_boundaries in
    omega (arith, c.requires.well.in_use.number, most)
