use Rattle.std.proofs.Common.{◌∙◌, ◌≤◌, Bool, List, inl, inr, length, ap, refl, rules, subst, sym}
use Rattle.dg_model.specs.declared.shapes.Shape.{Shape}
use Rattle.dg_volume.proofs.ArrayLaws.{on_err}
use Rattle.dg_volume.proofs.RegroupSteps.{HasReduced, blank_fits, few_goes, goes_none, left_goes, left_kept, none_goes, open_goes, open_leaves, out_levels, out_size, phase_fits, reduced_by, regrouped, unsealed_by, whole_goes}
use Rattle.dg_volume.specs.Regroups.{AnswersRegroup, IsPhaseLeft}
use Rattle.dg_volume.specs.declared.phases.AnyPhase.{AnyPhase}
use Rattle.dg_volume.specs.declared.regroups.RegroupAnswer.{RegroupAnswer}
use Rattle.dg_volume.specs.declared.volumes.Volume.{Volume}
use Rattle.dg_volume.proofs.regroups.Volume+AnyPhase+R.regroup.Goals as goal

pub returns-then-not-is_degraded-clause-on : goal.returns-then-not-is_degraded-clause-on
returns-then-not-is_degraded-clause-on g c = goes_none g.R.Rack c.args.self.now c.requires.well

pub returns-then-not-is_degraded-clause-answer : goal.returns-then-not-is_degraded-clause-answer
returns-then-not-is_degraded-clause-answer g c = whole_goes g.R.Rack c.args.self.now c.requires.well (sym c.is_degraded.ensures ∙ c.if-not-is_degraded.true)

pub returns-then-not-has_good-clause-on : goal.returns-then-not-has_good-clause-on
returns-then-not-has_good-clause-on g c = goes_none g.R.Rack c.args.self.now c.requires.well

pub returns-then-not-has_good-clause-answer : goal.returns-then-not-has_good-clause-answer
returns-then-not-has_good-clause-answer g c =
    none_goes g.R.Rack c.args.self.now c.requires.well (sym c.is_degraded.ensures ∙ c.if-not-is_degraded.false) (c.has_good.ensures.none c.if-not-has_good.true)

-- ---- the seal was opened

pub returns-in_err-found : goal.returns-in_err-found
returns-in_err-found g c =
    let a = c.args.self.now in
    let m : Volume AnyPhase g.row.R.Denot = record a { store = c.open_seal.new.store; label = c.open_seal.new.label } in
    let unsealed = unsealed_by g.R.Rack a m.store m.label c.requires.well (sym c.is_degraded.ensures ∙ c.if-not-is_degraded.false) (c.has_good.ensures.some c.if-not-has_good.false) c.open_seal.ensures in
    record {
      on = open_goes g.R.Rack a m unsealed;
      answer = search rules;
      err = on_err c.from_residual.result _ (inl (open_leaves g.R.Rack a m unsealed, λ told. c.open_seal.ensures.array.stands));
      given = refl;
    }

pub returns-in_default : goal.returns-in_default
returns-in_default g c =
    let a = c.args.self.now in
    let m : Volume AnyPhase g.row.R.Denot = record a { store = c.open_seal.new.store; label = c.open_seal.new.label } in
    let unsealed = unsealed_by g.R.Rack a m.store m.label c.requires.well (sym c.is_degraded.ensures ∙ c.if-not-is_degraded.false) (c.has_good.ensures.some c.if-not-has_good.false) c.open_seal.ensures in
    record {
      on = open_goes g.R.Rack a m unsealed;
      answer = few_goes g.R.Rack a m unsealed (rw c.in_default.is at c.in_ok-found.ensures.few);
      err = tt;
      given = refl;
    }

-- ---- the lost boundaries were taken out

pub returns-in_err-phase : goal.returns-in_err-phase
returns-in_err-phase g c =
    let a = c.args.self.now in
    let m : Volume AnyPhase g.row.R.Denot = record a { store = c.open_seal.new.store; label = c.open_seal.new.label } in
    let unsealed = unsealed_by g.R.Rack a m.store m.label c.requires.well (sym c.is_degraded.ensures ∙ c.if-not-is_degraded.false) (c.has_good.ensures.some c.if-not-has_good.false) c.open_seal.ensures in
    let b = c.take_out-answer.new.self in
    let e = c.in_err-phase.ensures in
    let f : Volume AnyPhase g.row.R.Denot = record b { store = c.phase_left.new.store; levels = c.phase_left.new.levels } in
    let reduced : HasReduced g.R.Rack _ _ a m c.in-Some.remains b f =
    reduced_by g.R.Rack _ _ a m c.in-Some.remains b f.store f.levels b.phase unsealed (rw c.in-Some.is at c.in_ok-found.ensures.left) c.take_out-answer.ensures.out e.reads e.levels
    c.labels_are_left.ensures.labeled c.labels_are_left.ensures.stands c.homes_left_ascend.ensures in
    record {
      on = left_goes g.R.Rack _ _ a m c.in-Some.remains b f reduced (blank_fits g.R.Rack _ _ a m c.in-Some.remains b f reduced refl);
      answer = search rules;
      err = on_err _ _ (inr (left_kept g.R.Rack _ _ a m c.in-Some.remains b f reduced));
      given = c.take_out-answer.ensures.out.given_is;
    }

pub returns : goal.returns
returns g c =
    let a = c.args.self.now in
    let m : Volume AnyPhase g.row.R.Denot = record a { store = c.open_seal.new.store; label = c.open_seal.new.label } in
    let unsealed = unsealed_by g.R.Rack a m.store m.label c.requires.well (sym c.is_degraded.ensures ∙ c.if-not-is_degraded.false) (c.has_good.ensures.some c.if-not-has_good.false) c.open_seal.ensures in
    let b = c.take_out-answer.new.self in
    let k = c.in_ok-phase.ensures in
    let f : Volume AnyPhase g.row.R.Denot = record b { store = c.phase_left.new.store; levels = c.phase_left.new.levels; phase = c.in_ok-phase.phase } in
    let reduced : HasReduced g.R.Rack _ _ a m c.in-Some.remains b f =
    reduced_by g.R.Rack _ _ a m c.in-Some.remains b f.store f.levels f.phase unsealed (rw c.in-Some.is at c.in_ok-found.ensures.left) c.take_out-answer.ensures.out k.reads k.levels
    c.labels_are_left.ensures.labeled c.labels_are_left.ensures.stands c.homes_left_ascend.ensures in
    let phase = subst (λ (xs : List Bool). IsPhaseLeft g.R.Rack b.store f.store xs f.phase) c.deref.ensures.value k.phase in
    record {
      on = left_goes g.R.Rack _ _ a m c.in-Some.remains b f reduced (phase_fits g.R.Rack _ _ a m c.in-Some.remains b f reduced phase);
      answer = subst (λ (answer : RegroupAnswer). AnswersRegroup g.R.Rack _ _ a f answer) (sym c.take_out-answer.ensures.answer) (regrouped g.R.Rack _ _ a m c.in-Some.remains b f reduced phase);
      err = tt;
      given = c.take_out-answer.ensures.out.given_is;
    }

pub take_out-answer-requires-clause-well : goal.take_out-answer-requires-clause-well
take_out-answer-requires-clause-well g c =
    let a = c.args.self.now in
    let m : Volume AnyPhase g.row.R.Denot = record a { store = c.open_seal.new.store; label = c.open_seal.new.label } in
    let unsealed = unsealed_by g.R.Rack a m.store m.label c.requires.well (sym c.is_degraded.ensures ∙ c.if-not-is_degraded.false) (c.has_good.ensures.some c.if-not-has_good.false) c.open_seal.ensures in
    (open_leaves g.R.Rack a m unsealed).well

pub take_out-answer-requires-clause-boundaries : goal.take_out-answer-requires-clause-boundaries
take_out-answer-requires-clause-boundaries g c =
    let k = c.open_seal.ensures.array.stays in
    let few = c.requires.boundaries c.open_seal.new.store.rack k.stays.same_rack in
    subst (λ (s : Shape). s.b ≤ g.R.Reduces.boundaries c.open_seal.new.store.rack) (sym k.shape) few

pub remains_of-requires-clause-copies : goal.remains_of-requires-clause-copies
remains_of-requires-clause-copies g c = c.requires.well.copies_are.0

pub phase_left-requires-clause-sound : goal.phase_left-requires-clause-sound
phase_left-requires-clause-sound g c = c.take_out-answer.ensures.out.array.sound

pub phase_left-requires-clause-levels : goal.phase_left-requires-clause-levels
phase_left-requires-clause-levels g c =
    let a = c.args.self.now in
    let m : Volume AnyPhase g.row.R.Denot = record a { store = c.open_seal.new.store; label = c.open_seal.new.label } in
    let unsealed = unsealed_by g.R.Rack a m.store m.label c.requires.well (sym c.is_degraded.ensures ∙ c.if-not-is_degraded.false) (c.has_good.ensures.some c.if-not-has_good.false) c.open_seal.ensures in
    out_levels g.R.Rack _ _ c.in-Some.remains m c.take_out-answer.new.self c.take_out-answer.ensures.out (open_leaves g.R.Rack a m unsealed).well

pub phase_left-requires-clause-marks : goal.phase_left-requires-clause-marks
phase_left-requires-clause-marks g c =
    let a = c.args.self.now in
    let m : Volume AnyPhase g.row.R.Denot = record a { store = c.open_seal.new.store; label = c.open_seal.new.label } in
    let unsealed = unsealed_by g.R.Rack a m.store m.label c.requires.well (sym c.is_degraded.ensures ∙ c.if-not-is_degraded.false) (c.has_good.ensures.some c.if-not-has_good.false) c.open_seal.ensures in
    ap length c.deref.ensures.value ∙ out_size g.R.Rack _ _ c.in-Some.remains m c.take_out-answer.new.self c.take_out-answer.ensures.out (open_leaves g.R.Rack a m unsealed).well
