use Rattle.std.proofs.Common.{◌≡◌, ◌≤◌, ◌+◌, [], ◌∷◌, true, refl, sym, subst}
use Rattle.std.specs.Prelude.{IfSome, OnErr, OnOk, length}
use Rattle.dg_io.specs.RackCalls.RackCall.{calls}
use Rattle.dg_io.specs.RackWords.{Leaves}
use Rattle.dg_io.specs.Told.{Patched, Told, Torn}
use Rattle.dg_model.specs.Causes.{RoseByOne}
use Rattle.dg_stop.proofs.CallLemmas.{due_told, tally_of}
use Rattle.dg_stop.proofs.PieceLemmas.{OnErr-always}
use Rattle.dg_stop.proofs.StepLemmas.{leaves_double, made_called}
use Rattle.dg_stop.specs.DoubleLaws.{both_of}
use Rattle.dg_stop.specs.Doubles.{Double, DoubleMade, double_bytes, double_stands, double_words, stands_in}
use Rattle.dg_stop.specs.Behind.{MostCalls}
use Rattle.dg_stop.specs.StopCalls.{double_writes}
use Rattle.dg_stop.proofs.doubles.DoubleRackRack.write.Goals as goal

pub write_member-result-requires-clause-held : goal.write_member-result-requires-clause-held
write_member-result-requires-clause-held g c =
    c.self.invariant

pub write_member-result-requires-clause-stands : goal.write_member-result-requires-clause-stands
write_member-result-requires-clause-stands g c =
    (both_of (stands_in c.self.inside.memory c.args.member) (g.R.Rack.stands c.self.inside.rack c.args.member)
    (subst (λ (s : Double g.row.R.Denot). double_stands g.R.Rack s c.args.member ≡ true) (sym c.self.view_is) c.requires.stands)).0

pub invariant_of-self : goal.invariant_of-self
invariant_of-self g c =
    let m = c.args.member in
    let r = c.write_member-result.result in
    let old : Double g.row.R.Denot = record { rack = c.self.inside.rack; memory = c.self.inside.memory; tally = c.self.inside.tally } in
    let new : Double g.row.R.Denot = record { rack = c.write_member-result.new.rack; memory = c.write_member-result.new.memory; tally = c.note_write.new.self } in
    c.write_member-result.ensures.steps.held

pub returns-clause-leaves : goal.returns-clause-leaves
returns-clause-leaves g c =
    let m = c.args.member in
    let r = c.write_member-result.result in
    let old : Double g.row.R.Denot = record { rack = c.self.inside.rack; memory = c.self.inside.memory; tally = c.self.inside.tally } in
    let new : Double g.row.R.Denot = record { rack = c.write_member-result.new.rack; memory = c.write_member-result.new.memory; tally = c.note_write.new.self } in
    subst (λ (s : Double g.row.R.Denot). Leaves (double_words g.R.Rack) m r s new) c.self.view_is
    (leaves_double g.R.Rack (calls m) m refl r old new c.write_member-result.ensures.steps (tally_of m r c.is_err.result c.self.inside.tally c.note_write.new.self c.is_err.ensures.value c.note_write.ensures.notes))

pub returns-clause-made : goal.returns-clause-made
returns-clause-made g c =
    let m = c.args.member in
    let r = c.write_member-result.result in
    let old : Double g.row.R.Denot = record { rack = c.self.inside.rack; memory = c.self.inside.memory; tally = c.self.inside.tally } in
    let new : Double g.row.R.Denot = record { rack = c.write_member-result.new.rack; memory = c.write_member-result.new.memory; tally = c.note_write.new.self } in
    subst (λ (s : Double g.row.R.Denot). DoubleMade g.R.Rack s (calls m ∷ []) new) c.self.view_is
    (made_called g.R.Rack (calls m) m refl r old new c.write_member-result.ensures.steps (tally_of m r c.is_err.result c.self.inside.tally c.note_write.new.self c.is_err.ensures.value c.note_write.ensures.notes) c.write_member-result.ensures.keeps (λ tells.
    let stand = both_of (stands_in c.self.inside.memory m) (g.R.Rack.stands c.self.inside.rack m)
    (subst (λ (s : Double g.row.R.Denot). double_stands g.R.Rack s m ≡ true) (sym c.self.view_is) c.requires.stands) in
    due_told g.R.Rack g.met.R.Rack.told c.self.inside.memory m (c.args.place + length c.args.buf.now) c.self.inside.rack c.write_member-result.new.rack r (c.write_member-result.ensures.steps.told_before m tells) stand.1
    (subst (λ (s : Double g.row.R.Denot). IfSome (double_bytes g.R.Rack s m) (λ all. c.args.place + length c.args.buf.now ≤ length all)) (sym c.self.view_is) c.requires.range)
    c.write_member-result.ensures.due))

pub returns-clause-writes : goal.returns-clause-writes
returns-clause-writes g c =
    subst (λ (s : Double g.row.R.Denot). RoseByOne s.tally.writes c.note_write.new.self.writes) c.self.view_is c.note_write.ensures.writes

pub returns-clause-ok : goal.returns-clause-ok
returns-clause-ok g c =
    let m = c.args.member in
    let r = c.write_member-result.result in
    let old : Double g.row.R.Denot = record { rack = c.self.inside.rack; memory = c.self.inside.memory; tally = c.self.inside.tally } in
    let new : Double g.row.R.Denot = record { rack = c.write_member-result.new.rack; memory = c.write_member-result.new.memory; tally = c.note_write.new.self } in
    subst (λ (s : Double g.row.R.Denot). OnOk r (Told (Patched c.args.place c.args.buf.now) (double_bytes g.R.Rack s m) (double_bytes g.R.Rack new m))) c.self.view_is c.write_member-result.ensures.ok

pub returns-clause-err : goal.returns-clause-err
returns-clause-err g c =
    let m = c.args.member in
    let r = c.write_member-result.result in
    let old : Double g.row.R.Denot = record { rack = c.self.inside.rack; memory = c.self.inside.memory; tally = c.self.inside.tally } in
    let new : Double g.row.R.Denot = record { rack = c.write_member-result.new.rack; memory = c.write_member-result.new.memory; tally = c.note_write.new.self } in
    subst (λ (s : Double g.row.R.Denot). OnErr r (Told (Torn c.args.place (length c.args.buf.now)) (double_bytes g.R.Rack s m) (double_bytes g.R.Rack new m))) c.self.view_is c.write_member-result.ensures.err

pub returns-clause-whole : goal.returns-clause-whole
returns-clause-whole g c =
    let m = c.args.member in
    let r = c.write_member-result.result in
    let old : Double g.row.R.Denot = record { rack = c.self.inside.rack; memory = c.self.inside.memory; tally = c.self.inside.tally } in
    let new : Double g.row.R.Denot = record { rack = c.write_member-result.new.rack; memory = c.write_member-result.new.memory; tally = c.note_write.new.self } in
    OnErr-always r _ (λ no. absurd no)

pub returns-clause-calls : goal.returns-clause-calls
returns-clause-calls g c =
    subst (λ (s : Double g.row.R.Denot). MostCalls g.R.Rack (double_writes s c.args.member c.args.place (length c.args.buf.now)) s.rack c.write_member-result.new.rack) c.self.view_is c.write_member-result.ensures.calls
