use Rattle.std.proofs.Common.{◌≡◌, [], ◌∷◌, true, refl, subst}
use Rattle.std.specs.Prelude.{OnOk}
use Rattle.dg_io.specs.Kept.{KeepsRest}
use Rattle.dg_io.specs.RackCalls.RackCall.{blanks}
use Rattle.dg_io.specs.RackWords.{Leaves}
use Rattle.dg_io.specs.Told.{IsZeros, Told}
use Rattle.dg_model.specs.Causes.{RoseByOne}
use Rattle.dg_stop.proofs.CallLemmas.{rest_double, tally_of}
use Rattle.dg_stop.proofs.StepLemmas.{leaves_double, made_double, ok_on, stand_own}
use Rattle.dg_stop.specs.Doubles.{Double, DoubleMade, double_bytes, double_keeps, double_stands, double_words, stands_in}
use Rattle.dg_stop.specs.Behind.{MostCalls}
use Rattle.dg_stop.proofs.doubles.DoubleRackRack.blank.Goals as goal

pub blank_member-result-requires : goal.blank_member-result-requires
blank_member-result-requires g c = record { held = c.self.invariant }

pub invariant_of-self : goal.invariant_of-self
invariant_of-self g c =
    let m = c.args.member in
    let r = c.blank_member-result.result in
    let old : Double g.row.R.Denot = record { rack = c.self.inside.rack; memory = c.self.inside.memory; tally = c.self.inside.tally } in
    let new : Double g.row.R.Denot = record { rack = c.blank_member-result.new.rack; memory = c.blank_member-result.new.memory; tally = c.note_write.new.self } in
    c.blank_member-result.ensures.steps.held

pub returns-clause-leaves : goal.returns-clause-leaves
returns-clause-leaves g c =
    let m = c.args.member in
    let r = c.blank_member-result.result in
    let old : Double g.row.R.Denot = record { rack = c.self.inside.rack; memory = c.self.inside.memory; tally = c.self.inside.tally } in
    let new : Double g.row.R.Denot = record { rack = c.blank_member-result.new.rack; memory = c.blank_member-result.new.memory; tally = c.note_write.new.self } in
    subst (λ (s : Double g.row.R.Denot). Leaves (double_words g.R.Rack) m r s new) c.self.view_is
    (leaves_double g.R.Rack (blanks m) m refl r old new c.blank_member-result.ensures.steps (tally_of m r c.is_err.result c.self.inside.tally c.note_write.new.self c.is_err.ensures.value c.note_write.ensures.notes))

pub returns-clause-made : goal.returns-clause-made
returns-clause-made g c =
    let m = c.args.member in
    let r = c.blank_member-result.result in
    let old : Double g.row.R.Denot = record { rack = c.self.inside.rack; memory = c.self.inside.memory; tally = c.self.inside.tally } in
    let new : Double g.row.R.Denot = record { rack = c.blank_member-result.new.rack; memory = c.blank_member-result.new.memory; tally = c.note_write.new.self } in
    subst (λ (s : Double g.row.R.Denot). DoubleMade g.R.Rack s (blanks m ∷ []) new) c.self.view_is
    (made_double g.R.Rack (blanks m) m refl r old new c.blank_member-result.ensures.steps (tally_of m r c.is_err.result c.self.inside.tally c.note_write.new.self c.is_err.ensures.value c.note_write.ensures.notes) (λ no. absurd no) (λ plain. absurd (plain refl)) (λ look. absurd (look refl)))

pub returns-clause-writes : goal.returns-clause-writes
returns-clause-writes g c =
    subst (λ (s : Double g.row.R.Denot). RoseByOne s.tally.writes c.note_write.new.self.writes) c.self.view_is c.note_write.ensures.writes

pub returns-clause-ok : goal.returns-clause-ok
returns-clause-ok g c =
    let m = c.args.member in
    let r = c.blank_member-result.result in
    let old : Double g.row.R.Denot = record { rack = c.self.inside.rack; memory = c.self.inside.memory; tally = c.self.inside.tally } in
    let new : Double g.row.R.Denot = record { rack = c.blank_member-result.new.rack; memory = c.blank_member-result.new.memory; tally = c.note_write.new.self } in
    subst (λ (s : Double g.row.R.Denot). OnOk r (Told (IsZeros c.args.length) (double_bytes g.R.Rack s m) (double_bytes g.R.Rack new m))) c.self.view_is c.blank_member-result.ensures.ok

pub returns-clause-stands : goal.returns-clause-stands
returns-clause-stands g c =
    let m = c.args.member in
    let r = c.blank_member-result.result in
    let old : Double g.row.R.Denot = record { rack = c.self.inside.rack; memory = c.self.inside.memory; tally = c.self.inside.tally } in
    let new : Double g.row.R.Denot = record { rack = c.blank_member-result.new.rack; memory = c.blank_member-result.new.memory; tally = c.note_write.new.self } in
    ok_on r (stands_in c.blank_member-result.new.memory m ≡ true) (double_stands g.R.Rack new m ≡ true) (stand_own g.R.Rack (blanks m) m refl r old new c.blank_member-result.ensures.steps (tally_of m r c.is_err.result c.self.inside.tally c.note_write.new.self c.is_err.ensures.value c.note_write.ensures.notes)) c.blank_member-result.ensures.stands

pub returns-clause-keeps : goal.returns-clause-keeps
returns-clause-keeps g c =
    let m = c.args.member in
    let r = c.blank_member-result.result in
    let old : Double g.row.R.Denot = record { rack = c.self.inside.rack; memory = c.self.inside.memory; tally = c.self.inside.tally } in
    let new : Double g.row.R.Denot = record { rack = c.blank_member-result.new.rack; memory = c.blank_member-result.new.memory; tally = c.note_write.new.self } in
    subst (λ (s : Double g.row.R.Denot). KeepsRest (double_keeps g.R.Rack) (double_stands g.R.Rack) m s new) c.self.view_is (rest_double g.R.Rack m old new c.blank_member-result.ensures.keeps)

pub returns-clause-calls : goal.returns-clause-calls
returns-clause-calls g c =
    subst (λ (s : Double g.row.R.Denot). MostCalls g.R.Rack 1 s.rack c.blank_member-result.new.rack) c.self.view_is c.blank_member-result.ensures.calls
