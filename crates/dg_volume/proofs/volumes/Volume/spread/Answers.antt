use Rattle.std.proofs.Common.{◌<◌, ◌^◌, List, refl, subst}
use Rattle.std.specs.Prelude.{All}
use Rattle.dg_model.specs.declared.homes.Home.{Home}
use Rattle.dg_volume.proofs.ArrayLaws.{on_err}
use Rattle.dg_volume.proofs.CopySteps.{HasDiffused, diffuse_leaves, diffuse_lost, diffuse_steps, wanted_by}
use Rattle.dg_volume.proofs.VolumeLaws.{leaves_none}
use Rattle.dg_volume.proofs.volumes.Volume.spread.Goals as goal
use Rattle.dg_volume.specs.Volumes.{line_of}

pub spread_recent-answer-requires-clause-placed : goal.spread_recent-answer-requires-clause-placed
spread_recent-answer-requires-clause-placed g c =
    let place = c.requires.well.settled c.requires.settled in
    let wanted = wanted_by g.S.InPhase g.R.Rack c.args.self.now c.in-Some-inference.inference.now c.requires.well c.in-Some-inference.ensures.kept place in
    (place.wants, wanted, place.placed)

pub returns-in-Some-clause-steps : goal.returns-in-Some-clause-steps
returns-in-Some-clause-steps g c = diffuse_lost g.S.InPhase g.R.Rack c.args.self.now c.args.hot.now c.in-Some.lost c.requires.well c.requires.settled c.in-Some.ensures

pub returns : goal.returns
returns g c =
    let a = c.args.self.now in
    let kept = c.in-Some-inference.inference.now in
    let hot = c.args.hot.now in
    let result = c.spread_recent-answer.result in
    let b = record a { store = c.spread_recent-answer.new.store; label = c.spread_recent-answer.new.label; copies = c.spread_recent-answer.new.copies } in
    let place = c.requires.well.settled c.requires.settled in
    let wanted = wanted_by g.S.InPhase g.R.Rack a kept c.requires.well c.in-Some-inference.ensures.kept place in
    let k = c.spread_recent-answer.ensures in
    let h : HasDiffused g.S.InPhase g.R.Rack a kept place.wants hot result b = record {
      well = c.requires.well;
      settled = c.requires.settled;
      kept_is = c.in-Some-inference.ensures.kept;
      whole = c.in_default.ensures;
      wanted = wanted;
      phase_is = refl;
      pending = refl;
      homes = refl;
      in_use = refl;
      levels = refl;
      small = subst (λ (x : List Home). All (λ (home : Home). home.inode < 2 ^ 32) x) c.as_slice.ensures c.inodes_fit.ensures;
      moved = k.array;
      written = k.written;
      labels = k.label (line_of a);
      placed = k.placed place.wants wanted;
      live = k.whole;
      diffused = k.diffused place.wants wanted;
      lost = k.lost;
      cut = k.cut place.wants wanted;
      still = k.still;
    } in
    record { leaves = diffuse_leaves g.S.InPhase g.R.Rack a kept place.wants hot result b h; steps = diffuse_steps g.S.InPhase g.R.Rack a kept place.wants hot result b h; err = on_err result _ k.array.stands; given = refl }

pub returns-in-Some-clause-leaves : goal.returns-in-Some-clause-leaves
returns-in-Some-clause-leaves g c = leaves_none g.S.InPhase g.R.Rack c.args.self.now c.requires.well
