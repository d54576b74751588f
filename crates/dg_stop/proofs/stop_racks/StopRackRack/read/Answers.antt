use Rattle.std.proofs.Common.{◌≡◌, ◌≤◌, ◌+◌, [], ◌∷◌, true, sym, subst, arith}
use Rattle.std.specs.Prelude.{IfSome, OnOk, length}
use Rattle.dg_io.specs.RackCalls.RackCall.{calls}
use Rattle.dg_io.specs.RackWords.{Leaves}
use Rattle.dg_io.specs.Told.{IsSame, Reads, Told}
use Rattle.dg_stop.specs.StopLaws.{doubled_leaves, doubled_made, plain_made, plain_leaves}
use Rattle.dg_stop.specs.StopRacks.{StopMade, stop_bytes, stop_counts, stop_stands, stop_words}
use Rattle.dg_stop.specs.declared.stop_racks.StopRack.{StopRack}
use Rattle.dg_stop.specs.declared.stop_racks.StopRack.TheVariants.{Plain, Doubled}
use Rattle.dg_stop.specs.Behind.{MostCalls}
use Rattle.dg_stop.specs.StopCalls.{behind, calls_to_read}
use Rattle.dg_stop.proofs.stop_racks.StopRackRack.read.Goals as goal

pub read-requires-clause-stands : goal.read-requires-clause-stands
read-requires-clause-stands g c = subst (λ (s : StopRack g.row.R.Denot). stop_stands g.R.Rack s c.args.member ≡ true) c.in-Plain.is c.requires.stands

pub read-requires-clause-range : goal.read-requires-clause-range
read-requires-clause-range g c = subst (λ (s : StopRack g.row.R.Denot). IfSome (stop_bytes g.R.Rack s c.args.member) (λ all. c.args.place + length c.args.buf.now ≤ length all)) c.in-Plain.is c.requires.range

pub returns-in-Plain-clause-ok : goal.returns-in-Plain-clause-ok
returns-in-Plain-clause-ok g c = subst (λ (s : StopRack g.row.R.Denot). OnOk c.read.result (Told (Reads c.args.place c.read.new.buf) (stop_bytes g.R.Rack s c.args.member) (stop_bytes g.R.Rack (Plain c.read.new.self) c.args.member))) (sym c.in-Plain.is) c.read.ensures.ok

pub returns-in-Plain-clause-same : goal.returns-in-Plain-clause-same
returns-in-Plain-clause-same g c = subst (λ (s : StopRack g.row.R.Denot). Told (IsSame) (stop_bytes g.R.Rack s c.args.member) (stop_bytes g.R.Rack (Plain c.read.new.self) c.args.member)) (sym c.in-Plain.is) c.read.ensures.same

pub returns-in-Plain-clause-made : goal.returns-in-Plain-clause-made
returns-in-Plain-clause-made g c = subst (λ (s : StopRack g.row.R.Denot). StopMade g.R.Rack s (calls c.args.member ∷ []) (Plain c.read.new.self)) (sym c.in-Plain.is) (plain_made g.R.Rack c.in-Plain.rack c.read.new.self (calls c.args.member ∷ []) c.read.ensures.made)

pub returns-in-Plain-clause-leaves : goal.returns-in-Plain-clause-leaves
returns-in-Plain-clause-leaves g c = subst (λ (s : StopRack g.row.R.Denot). Leaves (stop_words g.R.Rack) c.args.member c.read.result s (Plain c.read.new.self)) (sym c.in-Plain.is) (plain_leaves g.R.Rack c.args.member c.read.result c.in-Plain.rack c.read.new.self c.read.ensures.leaves)

pub returns-in-Plain-clause-writes : goal.returns-in-Plain-clause-writes
returns-in-Plain-clause-writes g c = subst (λ (s : StopRack g.row.R.Denot). (stop_counts g.R.Rack (Plain c.read.new.self)).writes ≡ (stop_counts g.R.Rack s).writes) (sym c.in-Plain.is) c.read.ensures.writes

pub read-requires-in-Doubled-clause-stands : goal.read-requires-in-Doubled-clause-stands
read-requires-in-Doubled-clause-stands g c = subst (λ (s : StopRack g.row.R.Denot). stop_stands g.R.Rack s c.args.member ≡ true) c.in-Doubled.is c.requires.stands

pub read-requires-in-Doubled-clause-range : goal.read-requires-in-Doubled-clause-range
read-requires-in-Doubled-clause-range g c = subst (λ (s : StopRack g.row.R.Denot). IfSome (stop_bytes g.R.Rack s c.args.member) (λ all. c.args.place + length c.args.buf.now ≤ length all)) c.in-Doubled.is c.requires.range

pub returns-in-Doubled-clause-ok : goal.returns-in-Doubled-clause-ok
returns-in-Doubled-clause-ok g c = subst (λ (s : StopRack g.row.R.Denot). OnOk c.read-in-Doubled.result (Told (Reads c.args.place c.read-in-Doubled.new.buf) (stop_bytes g.R.Rack s c.args.member) (stop_bytes g.R.Rack (Doubled c.read-in-Doubled.new.self) c.args.member))) (sym c.in-Doubled.is) c.read-in-Doubled.ensures.ok

pub returns-in-Doubled-clause-same : goal.returns-in-Doubled-clause-same
returns-in-Doubled-clause-same g c = subst (λ (s : StopRack g.row.R.Denot). Told (IsSame) (stop_bytes g.R.Rack s c.args.member) (stop_bytes g.R.Rack (Doubled c.read-in-Doubled.new.self) c.args.member)) (sym c.in-Doubled.is) c.read-in-Doubled.ensures.same

pub returns-in-Doubled-clause-made : goal.returns-in-Doubled-clause-made
returns-in-Doubled-clause-made g c = subst (λ (s : StopRack g.row.R.Denot). StopMade g.R.Rack s (calls c.args.member ∷ []) (Doubled c.read-in-Doubled.new.self)) (sym c.in-Doubled.is) (doubled_made g.R.Rack c.in-Doubled.double c.read-in-Doubled.new.self (calls c.args.member ∷ []) c.read-in-Doubled.ensures.made)

pub returns-in-Doubled-clause-leaves : goal.returns-in-Doubled-clause-leaves
returns-in-Doubled-clause-leaves g c = subst (λ (s : StopRack g.row.R.Denot). Leaves (stop_words g.R.Rack) c.args.member c.read-in-Doubled.result s (Doubled c.read-in-Doubled.new.self)) (sym c.in-Doubled.is) (doubled_leaves g.R.Rack c.args.member c.read-in-Doubled.result c.in-Doubled.double c.read-in-Doubled.new.self c.read-in-Doubled.ensures.leaves)

pub returns-in-Doubled-clause-writes : goal.returns-in-Doubled-clause-writes
returns-in-Doubled-clause-writes g c = subst (λ (s : StopRack g.row.R.Denot). (stop_counts g.R.Rack (Doubled c.read-in-Doubled.new.self)).writes ≡ (stop_counts g.R.Rack s).writes) (sym c.in-Doubled.is) c.read-in-Doubled.ensures.writes

pub returns-in-Plain-clause-calls : goal.returns-in-Plain-clause-calls
returns-in-Plain-clause-calls g c =
    subst (λ (s : StopRack g.row.R.Denot). MostCalls g.R.Rack (calls_to_read s c.args.place (length c.args.buf.now)) (behind s) c.read.new.self) (sym c.in-Plain.is) (omega (arith, c.read.ensures.leaves.counted.most))

pub returns-in-Doubled-clause-calls : goal.returns-in-Doubled-clause-calls
returns-in-Doubled-clause-calls g c =
    subst (λ (s : StopRack g.row.R.Denot). MostCalls g.R.Rack (calls_to_read s c.args.place (length c.args.buf.now)) (behind s) c.read-in-Doubled.new.self.rack) (sym c.in-Doubled.is) c.read-in-Doubled.ensures.calls
