use Rattle.std.proofs.Common.{◌≡◌, [], ◌∷◌, true, refl, subst}
use Rattle.std.specs.Prelude.{IfOk, IfSome, None}
use Rattle.dg_io.specs.RackCalls.RackCall.{looks}
use Rattle.dg_io.specs.RackWords.{Leaves}
use Rattle.dg_io.specs.Told.{IsEmpty, IsSame, Measures, Told}
use Rattle.dg_stop.proofs.CallLemmas.{absent_told, fallen_or, found_stands, found_told, seen_itself, tally_of}
use Rattle.dg_stop.proofs.MemberLemmas.{idle_keeps, idle_steps}
use Rattle.dg_stop.proofs.StepLemmas.{leaves_double, made_double, stand_own}
use Rattle.dg_stop.specs.Doubles.{Double, DoubleMade, double_bytes, double_stands, double_words, seen_in}
use Rattle.dg_stop.proofs.doubles.DoubleRackRack.attach.Goals as goal

pub invariant_of-self : goal.invariant_of-self
invariant_of-self g c =
    c.self.invariant

pub returns-clause-leaves : goal.returns-clause-leaves
returns-clause-leaves g c =
    let m = c.args.member in
    let r = c.find_member-result.result in
    let old : Double g.row.R.Denot = record { rack = c.self.inside.rack; memory = c.self.inside.memory; tally = c.self.inside.tally } in
    let new : Double g.row.R.Denot = record { rack = c.self.inside.rack; memory = c.self.inside.memory; tally = c.note.new.self } in
    subst (λ (s : Double g.row.R.Denot). Leaves (double_words g.R.Rack) m r s new) c.self.view_is
    (leaves_double g.R.Rack (looks m) m refl r old new (idle_steps g.R.Rack (looks m) m r c.self.inside.memory c.self.inside.rack c.self.invariant) (tally_of m r c.is_err.result c.self.inside.tally c.note.new.self c.is_err.ensures.value c.note.ensures.notes))

pub returns-clause-made : goal.returns-clause-made
returns-clause-made g c =
    let m = c.args.member in
    let r = c.find_member-result.result in
    let old : Double g.row.R.Denot = record { rack = c.self.inside.rack; memory = c.self.inside.memory; tally = c.self.inside.tally } in
    let new : Double g.row.R.Denot = record { rack = c.self.inside.rack; memory = c.self.inside.memory; tally = c.note.new.self } in
    subst (λ (s : Double g.row.R.Denot). DoubleMade g.R.Rack s (looks m ∷ []) new) c.self.view_is
    (made_double g.R.Rack (looks m) m refl r old new (idle_steps g.R.Rack (looks m) m r c.self.inside.memory c.self.inside.rack c.self.invariant) (tally_of m r c.is_err.result c.self.inside.tally c.note.new.self c.is_err.ensures.value c.note.ensures.notes) (λ no. (idle_keeps g.R.Rack c.self.inside.memory c.self.inside.rack)) (λ plain. absurd (plain refl))
    (λ look tells. fallen_or r _ _ _ c.find_member-result.ensures.err))

pub returns-clause-writes : goal.returns-clause-writes
returns-clause-writes g c =
    subst (λ (s : Double g.row.R.Denot). c.note.new.self.writes ≡ s.tally.writes) c.self.view_is c.note.ensures.writes

pub returns-clause-found : goal.returns-clause-found
returns-clause-found g c =
    let m = c.args.member in
    let r = c.find_member-result.result in
    let old : Double g.row.R.Denot = record { rack = c.self.inside.rack; memory = c.self.inside.memory; tally = c.self.inside.tally } in
    let new : Double g.row.R.Denot = record { rack = c.self.inside.rack; memory = c.self.inside.memory; tally = c.note.new.self } in
    subst (λ (s : Double g.row.R.Denot). IfOk r (λ found. IfSome found (λ n. Told (Measures n) (double_bytes g.R.Rack s m) (double_bytes g.R.Rack new m)))) c.self.view_is
    (found_told c.self.inside.memory m (g.R.Rack.bytes c.self.inside.rack m) r c.find_member-result.ensures.found)

pub returns-clause-absent : goal.returns-clause-absent
returns-clause-absent g c =
    let m = c.args.member in
    let r = c.find_member-result.result in
    let old : Double g.row.R.Denot = record { rack = c.self.inside.rack; memory = c.self.inside.memory; tally = c.self.inside.tally } in
    let new : Double g.row.R.Denot = record { rack = c.self.inside.rack; memory = c.self.inside.memory; tally = c.note.new.self } in
    subst (λ (s : Double g.row.R.Denot). IfOk r (λ found. found ≡ None → Told IsEmpty (double_bytes g.R.Rack s m) (double_bytes g.R.Rack new m))) c.self.view_is
    (absent_told c.self.inside.memory m (g.R.Rack.bytes c.self.inside.rack m) r c.find_member-result.ensures.absent (c.self.invariant.bare m))

pub returns-clause-same : goal.returns-clause-same
returns-clause-same g c =
    let m = c.args.member in
    let r = c.find_member-result.result in
    let old : Double g.row.R.Denot = record { rack = c.self.inside.rack; memory = c.self.inside.memory; tally = c.self.inside.tally } in
    let new : Double g.row.R.Denot = record { rack = c.self.inside.rack; memory = c.self.inside.memory; tally = c.note.new.self } in
    subst (λ (s : Double g.row.R.Denot). Told IsSame (double_bytes g.R.Rack s m) (double_bytes g.R.Rack new m)) c.self.view_is
    (seen_itself (seen_in c.self.inside.memory m (g.R.Rack.bytes c.self.inside.rack m)))

pub returns-clause-stands : goal.returns-clause-stands
returns-clause-stands g c =
    let m = c.args.member in
    let r = c.find_member-result.result in
    let old : Double g.row.R.Denot = record { rack = c.self.inside.rack; memory = c.self.inside.memory; tally = c.self.inside.tally } in
    let new : Double g.row.R.Denot = record { rack = c.self.inside.rack; memory = c.self.inside.memory; tally = c.note.new.self } in
    found_stands c.self.inside.memory m (g.R.Rack.bytes c.self.inside.rack m) (double_stands g.R.Rack new m ≡ true) r c.find_member-result.ensures.found
    (stand_own g.R.Rack (looks m) m refl r old new (idle_steps g.R.Rack (looks m) m r c.self.inside.memory c.self.inside.rack c.self.invariant) (tally_of m r c.is_err.result c.self.inside.tally c.note.new.self c.is_err.ensures.value c.note.ensures.notes))

pub returns-clause-calls : goal.returns-clause-calls
returns-clause-calls g c = subst (λ (s : Double g.row.R.Denot). c.self.inside.rack ≡ s.rack) c.self.view_is refl
