use Rattle.std.proofs.Common.{◌≡◌, [], ◌∷◌, true, sym, subst, arith, ap}
use Rattle.std.specs.Prelude.{IfSome, OnErr, OnOk}
use Rattle.dg_io.specs.RackCalls.RackCall.{extends}
use Rattle.dg_io.specs.RackWords.{Leaves}
use Rattle.dg_io.specs.Told.{Extended, FitsIn, KeepsFront, Told}
use Rattle.dg_model.specs.Causes.{RoseByOne}
use Rattle.dg_stop.specs.StopLaws.{doubled_leaves, doubled_made, plain_made, plain_leaves}
use Rattle.dg_stop.specs.StopRacks.{StopMade, stop_bytes, stop_counts, stop_stands, stop_words}
use Rattle.dg_stop.specs.declared.stop_racks.StopRack.{StopRack}
use Rattle.dg_stop.specs.declared.stop_racks.StopRack.TheVariants.{Plain, Doubled}
use Rattle.dg_stop.specs.Behind.{MostCalls}
use Rattle.dg_stop.specs.StopCalls.{behind, calls_to_look}
use Rattle.dg_stop.proofs.stop_racks.StopRackRack.extend.Goals as goal

pub extend-requires-clause-stands : goal.extend-requires-clause-stands
extend-requires-clause-stands g c = subst (λ (s : StopRack g.row.R.Denot). stop_stands g.R.Rack s c.args.member ≡ true) c.in-Plain.is c.requires.stands

pub extend-requires-clause-longer : goal.extend-requires-clause-longer
extend-requires-clause-longer g c = subst (λ (s : StopRack g.row.R.Denot). IfSome (stop_bytes g.R.Rack s c.args.member) (FitsIn c.args.length)) c.in-Plain.is c.requires.longer

pub returns-in-Plain-clause-ok : goal.returns-in-Plain-clause-ok
returns-in-Plain-clause-ok g c = subst (λ (s : StopRack g.row.R.Denot). OnOk c.extend.result (Told (Extended c.args.length) (stop_bytes g.R.Rack s c.args.member) (stop_bytes g.R.Rack (Plain c.extend.new.self) c.args.member))) (sym c.in-Plain.is) c.extend.ensures.ok

pub returns-in-Plain-clause-err : goal.returns-in-Plain-clause-err
returns-in-Plain-clause-err g c = subst (λ (s : StopRack g.row.R.Denot). OnErr c.extend.result (Told (KeepsFront) (stop_bytes g.R.Rack s c.args.member) (stop_bytes g.R.Rack (Plain c.extend.new.self) c.args.member))) (sym c.in-Plain.is) c.extend.ensures.err

pub returns-in-Plain-clause-made : goal.returns-in-Plain-clause-made
returns-in-Plain-clause-made g c = subst (λ (s : StopRack g.row.R.Denot). StopMade g.R.Rack s (extends c.args.member ∷ []) (Plain c.extend.new.self)) (sym c.in-Plain.is) (plain_made g.R.Rack c.in-Plain.rack c.extend.new.self (extends c.args.member ∷ []) c.extend.ensures.made)

pub returns-in-Plain-clause-leaves : goal.returns-in-Plain-clause-leaves
returns-in-Plain-clause-leaves g c = subst (λ (s : StopRack g.row.R.Denot). Leaves (stop_words g.R.Rack) c.args.member c.extend.result s (Plain c.extend.new.self)) (sym c.in-Plain.is) (plain_leaves g.R.Rack c.args.member c.extend.result c.in-Plain.rack c.extend.new.self c.extend.ensures.leaves)

pub returns-in-Plain-clause-writes : goal.returns-in-Plain-clause-writes
returns-in-Plain-clause-writes g c = subst (λ (s : StopRack g.row.R.Denot). RoseByOne (stop_counts g.R.Rack s).writes (stop_counts g.R.Rack (Plain c.extend.new.self)).writes) (sym c.in-Plain.is) c.extend.ensures.writes

pub extend-requires-in-Doubled-clause-stands : goal.extend-requires-in-Doubled-clause-stands
extend-requires-in-Doubled-clause-stands g c = subst (λ (s : StopRack g.row.R.Denot). stop_stands g.R.Rack s c.args.member ≡ true) c.in-Doubled.is c.requires.stands

pub extend-requires-in-Doubled-clause-longer : goal.extend-requires-in-Doubled-clause-longer
extend-requires-in-Doubled-clause-longer g c = subst (λ (s : StopRack g.row.R.Denot). IfSome (stop_bytes g.R.Rack s c.args.member) (FitsIn c.args.length)) c.in-Doubled.is c.requires.longer

pub returns-in-Doubled-clause-ok : goal.returns-in-Doubled-clause-ok
returns-in-Doubled-clause-ok g c = subst (λ (s : StopRack g.row.R.Denot). OnOk c.extend-in-Doubled.result (Told (Extended c.args.length) (stop_bytes g.R.Rack s c.args.member) (stop_bytes g.R.Rack (Doubled c.extend-in-Doubled.new.self) c.args.member))) (sym c.in-Doubled.is) c.extend-in-Doubled.ensures.ok

pub returns-in-Doubled-clause-err : goal.returns-in-Doubled-clause-err
returns-in-Doubled-clause-err g c = subst (λ (s : StopRack g.row.R.Denot). OnErr c.extend-in-Doubled.result (Told (KeepsFront) (stop_bytes g.R.Rack s c.args.member) (stop_bytes g.R.Rack (Doubled c.extend-in-Doubled.new.self) c.args.member))) (sym c.in-Doubled.is) c.extend-in-Doubled.ensures.err

pub returns-in-Doubled-clause-made : goal.returns-in-Doubled-clause-made
returns-in-Doubled-clause-made g c = subst (λ (s : StopRack g.row.R.Denot). StopMade g.R.Rack s (extends c.args.member ∷ []) (Doubled c.extend-in-Doubled.new.self)) (sym c.in-Doubled.is) (doubled_made g.R.Rack c.in-Doubled.double c.extend-in-Doubled.new.self (extends c.args.member ∷ []) c.extend-in-Doubled.ensures.made)

pub returns-in-Doubled-clause-leaves : goal.returns-in-Doubled-clause-leaves
returns-in-Doubled-clause-leaves g c = subst (λ (s : StopRack g.row.R.Denot). Leaves (stop_words g.R.Rack) c.args.member c.extend-in-Doubled.result s (Doubled c.extend-in-Doubled.new.self)) (sym c.in-Doubled.is) (doubled_leaves g.R.Rack c.args.member c.extend-in-Doubled.result c.in-Doubled.double c.extend-in-Doubled.new.self c.extend-in-Doubled.ensures.leaves)

pub returns-in-Doubled-clause-writes : goal.returns-in-Doubled-clause-writes
returns-in-Doubled-clause-writes g c = subst (λ (s : StopRack g.row.R.Denot). RoseByOne (stop_counts g.R.Rack s).writes (stop_counts g.R.Rack (Doubled c.extend-in-Doubled.new.self)).writes) (sym c.in-Doubled.is) c.extend-in-Doubled.ensures.writes

pub returns-in-Plain-clause-calls : goal.returns-in-Plain-clause-calls
returns-in-Plain-clause-calls g c =
    subst (λ (s : StopRack g.row.R.Denot). MostCalls g.R.Rack (calls_to_look s) (behind s) c.extend.new.self) (sym c.in-Plain.is) (omega (arith, c.extend.ensures.leaves.counted.most))

pub returns-in-Doubled-clause-calls : goal.returns-in-Doubled-clause-calls
returns-in-Doubled-clause-calls g c =
    subst (λ (s : StopRack g.row.R.Denot). MostCalls g.R.Rack (calls_to_look s) (behind s) c.extend-in-Doubled.new.self.rack) (sym c.in-Doubled.is) (let same : (g.R.Rack.counts c.extend-in-Doubled.new.self.rack).calls ≡ (g.R.Rack.counts c.in-Doubled.double.rack).calls = ap (λ (r : g.row.R.Denot). (g.R.Rack.counts r).calls) c.extend-in-Doubled.ensures.calls in omega (arith, same))
