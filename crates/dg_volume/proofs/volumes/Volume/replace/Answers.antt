use Rattle.std.proofs.Common.{◌∙◌, ◌+◌, ◌*◌, ℕ, refl, ap, subst, sym, arith}
use Rattle.dg_io.specs.MakesLaws.{makes_none}
use Rattle.dg_io.specs.Told.{IsZeros}
use Rattle.dg_label.specs.LineLaws.{line_on}
use Rattle.dg_model.specs.Saves.{member_length}
use Rattle.dg_model.specs.declared.shapes.Shape.{Shape}
use Rattle.dg_store.specs.Leaves.{BytesChange}
use Rattle.dg_store.specs.Stores.{rack_of, shape_of}
use Rattle.dg_volume.proofs.ReplaceSteps.{HasReplaced, line_enough, replace_leaves, replace_steps, replacement_ends, steps_unused}
use Rattle.dg_volume.proofs.VolumeLaws.{leaves_none}
use Rattle.dg_volume.proofs.volumes.Volume.replace.Goals as goal
use Rattle.dg_volume.specs.HeldLaws.{leaves_or_blank}
use Rattle.dg_volume.specs.Refills.{EndsReplacement}
use Rattle.dg_volume.specs.Volumes.{line_of}

pub returns : goal.returns
returns g c =
    let a = c.args.self.now in
    let m = c.open_where.new.store in
    let b = record a { store = c.replace-answer.new.self; label = c.note_anew.new.label } in
    let k = c.replace-answer.ensures in
    let h : HasReplaced g.S.InPhase g.R.Rack a c.in-Some.place c.args.side c.replace-answer.result c.can_replace-opens.result m b = record {
      number = c.args.boundary;
      place = record { number = omega arith; is = c.in-Some.ensures.some; within = omega (arith, c.in-Some.ensures.within, c.requires.well.in_use.number) };
      side = omega arith;
      beside = record { phase_is = refl; pending = refl; homes = refl; copies = refl; in_use = refl };
      levels = refl;
      sound = k.sound;
      labeled = c.requires.well.labeled;
      mid = c.open_where.new.label;
      opening = c.open_where.ensures;
      label = c.note_anew.ensures;
      out = c.can_replace-opens.ensures.out;
      live = c.can_replace-opens.ensures.live;
      other = c.can_replace-opens.ensures.other;
      left = k.stays;
      table = k.table;
      lost = k.lost;
      not_out = k.not_out;
      failed = k.failed;
      members = k.members;
      blank = λ is.
          subst (λ (n : ℕ). BytesChange g.R.Rack m c.replace-answer.new.self (2 * c.in-Some.place + c.args.side) (IsZeros n))
          (c.member_length-size.ensures ∙ ap (member_length 2) (c.line-line.ensures ∙ ap (λ (s : Shape). record s { b = a.in_use.long }) (c.shape.ensures ∙ c.open_where.ensures.array.stays.shape))) (k.blank is);
      other_bytes = k.other_bytes;
      other_faults = k.other_faults;
      faulty = k.faulty;
      quiet = k.quiet;
      stands = k.stands;
    } in
    record {
      leaves = replace_leaves g.S.InPhase g.R.Rack a c.in-Some.place c.args.side c.replace-answer.result c.can_replace-opens.result m b c.requires.well h;
      steps = rw c.answered.ensures (replace_steps g.S.InPhase g.R.Rack a c.in-Some.place c.args.side c.replace-answer.result c.can_replace-opens.result m b c.requires.well h);
      keeps = record {
        mid = rack_of m;
        opened = c.open_where.ensures.array.stays.own.made;
        ends =
            let place = c.in-Some.ensures.some in
            subst (λ (s : ℕ). EndsReplacement g.R.Rack (2 * s + c.args.side) c.answered.result (rack_of m) (rack_of b.store)) (sym place)
            (rw c.answered.ensures (replacement_ends g.R.Rack (2 * c.in-Some.place + c.args.side) c.replace-answer.result (rack_of m) (rack_of b.store) k.keeps));
        unused = λ e. absurd (omega (arith, e, c.in-Some.ensures.some, c.in-Some.ensures.within));
      };
      given = refl;
    }

pub returns-then-boundary-self-clause-keeps : goal.returns-then-boundary-self-clause-keeps
returns-then-boundary-self-clause-keeps g c = record { mid = rack_of c.args.self.now.store; opened = makes_none g.R.Rack _ _; ends = refl; unused = λ e. refl }

pub returns-in_default-clause-keeps : goal.returns-in_default-clause-keeps
returns-in_default-clause-keeps g c = record { mid = rack_of c.args.self.now.store; opened = makes_none g.R.Rack _ _; ends = refl; unused = λ e. refl }

pub returns-then-boundary-self-clause-leaves : goal.returns-then-boundary-self-clause-leaves
returns-then-boundary-self-clause-leaves g c =
    leaves_or_blank g.S.InPhase g.S.InPhase g.R.Rack c.args.self.now c.args.self.now (leaves_none g.S.InPhase g.R.Rack c.args.self.now c.requires.well)

pub returns-in_default-clause-leaves : goal.returns-in_default-clause-leaves
returns-in_default-clause-leaves g c =
    leaves_or_blank g.S.InPhase g.S.InPhase g.R.Rack c.args.self.now c.args.self.now (leaves_none g.S.InPhase g.R.Rack c.args.self.now c.requires.well)

pub returns-in_default-clause-steps : goal.returns-in_default-clause-steps
returns-in_default-clause-steps g c =
    steps_unused g.S.InPhase g.R.Rack c.args.self.now c.args.boundary c.args.side c.requires.well (record { number = omega arith; is = c.in_default.ensures.none }) (omega arith)

pub place-requires : goal.place-requires
place-requires g c =
    let most = c.requires.well.array.table.shape.most_boundaries in
    omega (arith, c.requires.well.in_use.number, most)

pub replace-answer-requires-clause-size : goal.replace-answer-requires-clause-size
replace-answer-requires-clause-size g c =
    let a = c.args.self.now in
    let shape = c.open_where.ensures.array.stays.shape in
    let line = c.line-line.ensures ∙ ap (λ (s : Shape). record s { b = a.in_use.long }) (c.shape.ensures ∙ shape) in
    let enough = line_enough (line_of a) (shape_of c.open_where.new.store) (line_on (line_of a) (shape_of a.store) (shape_of c.open_where.new.store) shape c.requires.well.labeled.fits) in
    omega (arith, enough, c.member_length-size.ensures, ap (member_length 2) line)
