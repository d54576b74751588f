use Rattle.std.proofs.Common.{◌≡◌, [], ◌∷◌, sym, subst, arith, ap}
use Rattle.std.specs.Prelude.{IfOk, IfSome, None}
use Rattle.dg_io.specs.RackCalls.RackCall.{looks}
use Rattle.dg_io.specs.RackWords.{Leaves}
use Rattle.dg_io.specs.Told.{IsEmpty, IsSame, Measures, Told}
use Rattle.dg_stop.specs.StopLaws.{doubled_leaves, doubled_made, plain_made, plain_leaves}
use Rattle.dg_stop.specs.StopRacks.{StopMade, stop_bytes, stop_counts, stop_words}
use Rattle.dg_stop.specs.declared.stop_racks.StopRack.{StopRack}
use Rattle.dg_stop.specs.declared.stop_racks.StopRack.TheVariants.{Plain, Doubled}
use Rattle.dg_stop.specs.Behind.{MostCalls}
use Rattle.dg_stop.specs.StopCalls.{behind, calls_to_look}
use Rattle.dg_stop.proofs.stop_racks.StopRackRack.attach.Goals as goal

pub returns-in-Plain-clause-found : goal.returns-in-Plain-clause-found
returns-in-Plain-clause-found g c = subst (λ (s : StopRack g.row.R.Denot). IfOk c.attach.result (λ found. IfSome found (λ n. Told (Measures n) (stop_bytes g.R.Rack s c.args.member) (stop_bytes g.R.Rack (Plain c.attach.new.self) c.args.member)))) (sym c.in-Plain.is) c.attach.ensures.found

pub returns-in-Plain-clause-absent : goal.returns-in-Plain-clause-absent
returns-in-Plain-clause-absent g c = subst (λ (s : StopRack g.row.R.Denot). IfOk c.attach.result (λ found. found ≡ None → Told (IsEmpty) (stop_bytes g.R.Rack s c.args.member) (stop_bytes g.R.Rack (Plain c.attach.new.self) c.args.member))) (sym c.in-Plain.is) c.attach.ensures.absent

pub returns-in-Plain-clause-same : goal.returns-in-Plain-clause-same
returns-in-Plain-clause-same g c = subst (λ (s : StopRack g.row.R.Denot). Told (IsSame) (stop_bytes g.R.Rack s c.args.member) (stop_bytes g.R.Rack (Plain c.attach.new.self) c.args.member)) (sym c.in-Plain.is) c.attach.ensures.same

pub returns-in-Plain-clause-leaves : goal.returns-in-Plain-clause-leaves
returns-in-Plain-clause-leaves g c = subst (λ (s : StopRack g.row.R.Denot). Leaves (stop_words g.R.Rack) c.args.member c.attach.result s (Plain c.attach.new.self)) (sym c.in-Plain.is) (plain_leaves g.R.Rack c.args.member c.attach.result c.in-Plain.rack c.attach.new.self c.attach.ensures.leaves)

pub returns-in-Plain-clause-stands : goal.returns-in-Plain-clause-stands
returns-in-Plain-clause-stands g c = c.attach.ensures.stands

pub returns-in-Plain-clause-made : goal.returns-in-Plain-clause-made
returns-in-Plain-clause-made g c = subst (λ (s : StopRack g.row.R.Denot). StopMade g.R.Rack s (looks c.args.member ∷ []) (Plain c.attach.new.self)) (sym c.in-Plain.is) (plain_made g.R.Rack c.in-Plain.rack c.attach.new.self (looks c.args.member ∷ []) c.attach.ensures.made)

pub returns-in-Plain-clause-writes : goal.returns-in-Plain-clause-writes
returns-in-Plain-clause-writes g c = subst (λ (s : StopRack g.row.R.Denot). (stop_counts g.R.Rack (Plain c.attach.new.self)).writes ≡ (stop_counts g.R.Rack s).writes) (sym c.in-Plain.is) c.attach.ensures.writes

pub returns-in-Doubled-clause-found : goal.returns-in-Doubled-clause-found
returns-in-Doubled-clause-found g c = subst (λ (s : StopRack g.row.R.Denot). IfOk c.attach-in-Doubled.result (λ found. IfSome found (λ n. Told (Measures n) (stop_bytes g.R.Rack s c.args.member) (stop_bytes g.R.Rack (Doubled c.attach-in-Doubled.new.self) c.args.member)))) (sym c.in-Doubled.is) c.attach-in-Doubled.ensures.found

pub returns-in-Doubled-clause-absent : goal.returns-in-Doubled-clause-absent
returns-in-Doubled-clause-absent g c = subst (λ (s : StopRack g.row.R.Denot). IfOk c.attach-in-Doubled.result (λ found. found ≡ None → Told (IsEmpty) (stop_bytes g.R.Rack s c.args.member) (stop_bytes g.R.Rack (Doubled c.attach-in-Doubled.new.self) c.args.member))) (sym c.in-Doubled.is) c.attach-in-Doubled.ensures.absent

pub returns-in-Doubled-clause-same : goal.returns-in-Doubled-clause-same
returns-in-Doubled-clause-same g c = subst (λ (s : StopRack g.row.R.Denot). Told (IsSame) (stop_bytes g.R.Rack s c.args.member) (stop_bytes g.R.Rack (Doubled c.attach-in-Doubled.new.self) c.args.member)) (sym c.in-Doubled.is) c.attach-in-Doubled.ensures.same

pub returns-in-Doubled-clause-leaves : goal.returns-in-Doubled-clause-leaves
returns-in-Doubled-clause-leaves g c = subst (λ (s : StopRack g.row.R.Denot). Leaves (stop_words g.R.Rack) c.args.member c.attach-in-Doubled.result s (Doubled c.attach-in-Doubled.new.self)) (sym c.in-Doubled.is) (doubled_leaves g.R.Rack c.args.member c.attach-in-Doubled.result c.in-Doubled.double c.attach-in-Doubled.new.self c.attach-in-Doubled.ensures.leaves)

pub returns-in-Doubled-clause-stands : goal.returns-in-Doubled-clause-stands
returns-in-Doubled-clause-stands g c = c.attach-in-Doubled.ensures.stands

pub returns-in-Doubled-clause-made : goal.returns-in-Doubled-clause-made
returns-in-Doubled-clause-made g c = subst (λ (s : StopRack g.row.R.Denot). StopMade g.R.Rack s (looks c.args.member ∷ []) (Doubled c.attach-in-Doubled.new.self)) (sym c.in-Doubled.is) (doubled_made g.R.Rack c.in-Doubled.double c.attach-in-Doubled.new.self (looks c.args.member ∷ []) c.attach-in-Doubled.ensures.made)

pub returns-in-Doubled-clause-writes : goal.returns-in-Doubled-clause-writes
returns-in-Doubled-clause-writes g c = subst (λ (s : StopRack g.row.R.Denot). (stop_counts g.R.Rack (Doubled c.attach-in-Doubled.new.self)).writes ≡ (stop_counts g.R.Rack s).writes) (sym c.in-Doubled.is) c.attach-in-Doubled.ensures.writes

pub returns-in-Plain-clause-calls : goal.returns-in-Plain-clause-calls
returns-in-Plain-clause-calls g c =
    subst (λ (s : StopRack g.row.R.Denot). MostCalls g.R.Rack (calls_to_look s) (behind s) c.attach.new.self) (sym c.in-Plain.is) (omega (arith, c.attach.ensures.leaves.counted.most))

pub returns-in-Doubled-clause-calls : goal.returns-in-Doubled-clause-calls
returns-in-Doubled-clause-calls g c =
    subst (λ (s : StopRack g.row.R.Denot). MostCalls g.R.Rack (calls_to_look s) (behind s) c.attach-in-Doubled.new.self.rack) (sym c.in-Doubled.is) (let same : (g.R.Rack.counts c.attach-in-Doubled.new.self.rack).calls ≡ (g.R.Rack.counts c.in-Doubled.double.rack).calls = ap (λ (r : g.row.R.Denot). (g.R.Rack.counts r).calls) c.attach-in-Doubled.ensures.calls in omega (arith, same))
