use Rattle.std.proofs.Common.{◌≡◌, ◌≤◌, ◌+◌, [], ◌∷◌, true, refl, sym, subst, length}
use Rattle.std.specs.Prelude.{IfSome, OnOk}
use Rattle.dg_io.specs.RackCalls.RackCall.{calls}
use Rattle.dg_io.specs.RackWords.{Leaves}
use Rattle.dg_io.specs.Told.{IsSame, Reads, Told}
use Rattle.dg_stop.proofs.CallLemmas.{due_told, tally_of}
use Rattle.dg_stop.proofs.StepLemmas.{leaves_double, made_called}
use Rattle.dg_stop.specs.DoubleLaws.{both_of}
use Rattle.dg_stop.specs.Doubles.{Double, DoubleMade, double_bytes, double_stands, double_words, stands_in}
use Rattle.dg_stop.specs.Behind.{MostCalls, pages_on}
use Rattle.dg_stop.proofs.doubles.DoubleRackRack.read.Goals as goal

pub read_member-result-requires-clause-held : goal.read_member-result-requires-clause-held
read_member-result-requires-clause-held g c =
    c.self.invariant

pub read_member-result-requires-clause-stands : goal.read_member-result-requires-clause-stands
read_member-result-requires-clause-stands g c =
    (both_of (stands_in c.self.inside.memory c.args.member) (g.R.Rack.stands c.self.inside.rack c.args.member)
    (subst (λ (s : Double g.row.R.Denot). double_stands g.R.Rack s c.args.member ≡ true) (sym c.self.view_is) c.requires.stands)).0

pub invariant_of-self : goal.invariant_of-self
invariant_of-self g c =
    let m = c.args.member in
    let r = c.read_member-result.result in
    let old : Double g.row.R.Denot = record { rack = c.self.inside.rack; memory = c.self.inside.memory; tally = c.self.inside.tally } in
    let new : Double g.row.R.Denot = record { rack = c.read_member-result.new.rack; memory = c.read_member-result.new.memory; tally = c.note.new.self } in
    c.read_member-result.ensures.steps.held

pub returns-clause-leaves : goal.returns-clause-leaves
returns-clause-leaves g c =
    let m = c.args.member in
    let r = c.read_member-result.result in
    let old : Double g.row.R.Denot = record { rack = c.self.inside.rack; memory = c.self.inside.memory; tally = c.self.inside.tally } in
    let new : Double g.row.R.Denot = record { rack = c.read_member-result.new.rack; memory = c.read_member-result.new.memory; tally = c.note.new.self } in
    subst (λ (s : Double g.row.R.Denot). Leaves (double_words g.R.Rack) m r s new) c.self.view_is
    (leaves_double g.R.Rack (calls m) m refl r old new c.read_member-result.ensures.steps (tally_of m r c.is_err.result c.self.inside.tally c.note.new.self c.is_err.ensures.value c.note.ensures.notes))

pub returns-clause-made : goal.returns-clause-made
returns-clause-made g c =
    let m = c.args.member in
    let r = c.read_member-result.result in
    let old : Double g.row.R.Denot = record { rack = c.self.inside.rack; memory = c.self.inside.memory; tally = c.self.inside.tally } in
    let new : Double g.row.R.Denot = record { rack = c.read_member-result.new.rack; memory = c.read_member-result.new.memory; tally = c.note.new.self } in
    subst (λ (s : Double g.row.R.Denot). DoubleMade g.R.Rack s (calls m ∷ []) new) c.self.view_is
    (made_called g.R.Rack (calls m) m refl r old new c.read_member-result.ensures.steps (tally_of m r c.is_err.result c.self.inside.tally c.note.new.self c.is_err.ensures.value c.note.ensures.notes) c.read_member-result.ensures.keeps (λ tells.
    let stand = both_of (stands_in c.self.inside.memory m) (g.R.Rack.stands c.self.inside.rack m)
    (subst (λ (s : Double g.row.R.Denot). double_stands g.R.Rack s m ≡ true) (sym c.self.view_is) c.requires.stands) in
    due_told g.R.Rack g.met.R.Rack.told c.self.inside.memory m (c.args.place + length c.args.buf.now) c.self.inside.rack c.read_member-result.new.rack r (c.read_member-result.ensures.steps.told_before m tells) stand.1
    (subst (λ (s : Double g.row.R.Denot). IfSome (double_bytes g.R.Rack s m) (λ all. c.args.place + length c.args.buf.now ≤ length all)) (sym c.self.view_is) c.requires.range)
    c.read_member-result.ensures.due))

pub returns-clause-writes : goal.returns-clause-writes
returns-clause-writes g c =
    subst (λ (s : Double g.row.R.Denot). c.note.new.self.writes ≡ s.tally.writes) c.self.view_is c.note.ensures.writes

pub returns-clause-ok : goal.returns-clause-ok
returns-clause-ok g c =
    let m = c.args.member in
    let r = c.read_member-result.result in
    let old : Double g.row.R.Denot = record { rack = c.self.inside.rack; memory = c.self.inside.memory; tally = c.self.inside.tally } in
    let new : Double g.row.R.Denot = record { rack = c.read_member-result.new.rack; memory = c.read_member-result.new.memory; tally = c.note.new.self } in
    subst (λ (s : Double g.row.R.Denot). OnOk r (Told (Reads c.args.place c.read_member-result.new.buf) (double_bytes g.R.Rack s m) (double_bytes g.R.Rack new m))) c.self.view_is c.read_member-result.ensures.ok

pub returns-clause-same : goal.returns-clause-same
returns-clause-same g c =
    let m = c.args.member in
    let r = c.read_member-result.result in
    let old : Double g.row.R.Denot = record { rack = c.self.inside.rack; memory = c.self.inside.memory; tally = c.self.inside.tally } in
    let new : Double g.row.R.Denot = record { rack = c.read_member-result.new.rack; memory = c.read_member-result.new.memory; tally = c.note.new.self } in
    subst (λ (s : Double g.row.R.Denot). Told IsSame (double_bytes g.R.Rack s m) (double_bytes g.R.Rack new m)) c.self.view_is c.read_member-result.ensures.same

pub returns-clause-calls : goal.returns-clause-calls
returns-clause-calls g c =
    subst (λ (s : Double g.row.R.Denot). MostCalls g.R.Rack (pages_on c.args.place (length c.args.buf.now)) s.rack c.read_member-result.new.rack) c.self.view_is c.read_member-result.ensures.calls
