use Rattle.std.proofs.Common.{◌≡◌, ◌≤◌, ◌+◌, [], ◌∷◌, true, sym, subst, arith}
use Rattle.std.specs.Prelude.{IfSome, OnErr, OnOk, length}
use Rattle.dg_io.specs.RackCalls.RackCall.{calls}
use Rattle.dg_io.specs.RackWords.{Leaves}
use Rattle.dg_io.specs.Told.{IsHeader, OldOrNew, Patched, Told, Torn}
use Rattle.dg_model.specs.Causes.{RoseByOne}
use Rattle.dg_stop.specs.StopLaws.{doubled_leaves, doubled_made, plain_made, plain_leaves}
use Rattle.dg_stop.specs.StopRacks.{StopMade, stop_bytes, stop_counts, stop_stands, stop_steady, stop_words}
use Rattle.dg_stop.specs.declared.stop_racks.StopRack.{StopRack}
use Rattle.dg_stop.specs.declared.stop_racks.StopRack.TheVariants.{Plain, Doubled}
use Rattle.dg_stop.specs.Behind.{MostCalls}
use Rattle.dg_stop.specs.StopCalls.{behind, calls_to_write}
use Rattle.dg_stop.proofs.stop_racks.StopRackRack.write.Goals as goal

pub write-requires-clause-stands : goal.write-requires-clause-stands
write-requires-clause-stands g c = subst (λ (s : StopRack g.row.R.Denot). stop_stands g.R.Rack s c.args.member ≡ true) c.in-Plain.is c.requires.stands

pub write-requires-clause-range : goal.write-requires-clause-range
write-requires-clause-range g c = subst (λ (s : StopRack g.row.R.Denot). IfSome (stop_bytes g.R.Rack s c.args.member) (λ all. c.args.place + length c.args.buf.now ≤ length all)) c.in-Plain.is c.requires.range

pub returns-in-Plain-clause-ok : goal.returns-in-Plain-clause-ok
returns-in-Plain-clause-ok g c = subst (λ (s : StopRack g.row.R.Denot). OnOk c.write.result (Told (Patched c.args.place c.args.buf.now) (stop_bytes g.R.Rack s c.args.member) (stop_bytes g.R.Rack (Plain c.write.new.self) c.args.member))) (sym c.in-Plain.is) c.write.ensures.ok

pub returns-in-Plain-clause-err : goal.returns-in-Plain-clause-err
returns-in-Plain-clause-err g c = subst (λ (s : StopRack g.row.R.Denot). OnErr c.write.result (Told (Torn c.args.place (length c.args.buf.now)) (stop_bytes g.R.Rack s c.args.member) (stop_bytes g.R.Rack (Plain c.write.new.self) c.args.member))) (sym c.in-Plain.is) c.write.ensures.err

pub returns-in-Plain-clause-whole : goal.returns-in-Plain-clause-whole
returns-in-Plain-clause-whole g c = subst (λ (s : StopRack g.row.R.Denot). OnErr c.write.result (stop_steady g.R.Rack s → IsHeader c.args.place c.args.buf.now → Told (OldOrNew c.args.place c.args.buf.now) (stop_bytes g.R.Rack s c.args.member) (stop_bytes g.R.Rack (Plain c.write.new.self) c.args.member))) (sym c.in-Plain.is) c.write.ensures.whole

pub returns-in-Plain-clause-made : goal.returns-in-Plain-clause-made
returns-in-Plain-clause-made g c = subst (λ (s : StopRack g.row.R.Denot). StopMade g.R.Rack s (calls c.args.member ∷ []) (Plain c.write.new.self)) (sym c.in-Plain.is) (plain_made g.R.Rack c.in-Plain.rack c.write.new.self (calls c.args.member ∷ []) c.write.ensures.made)

pub returns-in-Plain-clause-leaves : goal.returns-in-Plain-clause-leaves
returns-in-Plain-clause-leaves g c = subst (λ (s : StopRack g.row.R.Denot). Leaves (stop_words g.R.Rack) c.args.member c.write.result s (Plain c.write.new.self)) (sym c.in-Plain.is) (plain_leaves g.R.Rack c.args.member c.write.result c.in-Plain.rack c.write.new.self c.write.ensures.leaves)

pub returns-in-Plain-clause-writes : goal.returns-in-Plain-clause-writes
returns-in-Plain-clause-writes g c = subst (λ (s : StopRack g.row.R.Denot). RoseByOne (stop_counts g.R.Rack s).writes (stop_counts g.R.Rack (Plain c.write.new.self)).writes) (sym c.in-Plain.is) c.write.ensures.writes

pub write-requires-in-Doubled-clause-stands : goal.write-requires-in-Doubled-clause-stands
write-requires-in-Doubled-clause-stands g c = subst (λ (s : StopRack g.row.R.Denot). stop_stands g.R.Rack s c.args.member ≡ true) c.in-Doubled.is c.requires.stands

pub write-requires-in-Doubled-clause-range : goal.write-requires-in-Doubled-clause-range
write-requires-in-Doubled-clause-range g c = subst (λ (s : StopRack g.row.R.Denot). IfSome (stop_bytes g.R.Rack s c.args.member) (λ all. c.args.place + length c.args.buf.now ≤ length all)) c.in-Doubled.is c.requires.range

pub returns-in-Doubled-clause-ok : goal.returns-in-Doubled-clause-ok
returns-in-Doubled-clause-ok g c = subst (λ (s : StopRack g.row.R.Denot). OnOk c.write-in-Doubled.result (Told (Patched c.args.place c.args.buf.now) (stop_bytes g.R.Rack s c.args.member) (stop_bytes g.R.Rack (Doubled c.write-in-Doubled.new.self) c.args.member))) (sym c.in-Doubled.is) c.write-in-Doubled.ensures.ok

pub returns-in-Doubled-clause-err : goal.returns-in-Doubled-clause-err
returns-in-Doubled-clause-err g c = subst (λ (s : StopRack g.row.R.Denot). OnErr c.write-in-Doubled.result (Told (Torn c.args.place (length c.args.buf.now)) (stop_bytes g.R.Rack s c.args.member) (stop_bytes g.R.Rack (Doubled c.write-in-Doubled.new.self) c.args.member))) (sym c.in-Doubled.is) c.write-in-Doubled.ensures.err

pub returns-in-Doubled-clause-whole : goal.returns-in-Doubled-clause-whole
returns-in-Doubled-clause-whole g c = subst (λ (s : StopRack g.row.R.Denot). OnErr c.write-in-Doubled.result (stop_steady g.R.Rack s → IsHeader c.args.place c.args.buf.now → Told (OldOrNew c.args.place c.args.buf.now) (stop_bytes g.R.Rack s c.args.member) (stop_bytes g.R.Rack (Doubled c.write-in-Doubled.new.self) c.args.member))) (sym c.in-Doubled.is) c.write-in-Doubled.ensures.whole

pub returns-in-Doubled-clause-made : goal.returns-in-Doubled-clause-made
returns-in-Doubled-clause-made g c = subst (λ (s : StopRack g.row.R.Denot). StopMade g.R.Rack s (calls c.args.member ∷ []) (Doubled c.write-in-Doubled.new.self)) (sym c.in-Doubled.is) (doubled_made g.R.Rack c.in-Doubled.double c.write-in-Doubled.new.self (calls c.args.member ∷ []) c.write-in-Doubled.ensures.made)

pub returns-in-Doubled-clause-leaves : goal.returns-in-Doubled-clause-leaves
returns-in-Doubled-clause-leaves g c = subst (λ (s : StopRack g.row.R.Denot). Leaves (stop_words g.R.Rack) c.args.member c.write-in-Doubled.result s (Doubled c.write-in-Doubled.new.self)) (sym c.in-Doubled.is) (doubled_leaves g.R.Rack c.args.member c.write-in-Doubled.result c.in-Doubled.double c.write-in-Doubled.new.self c.write-in-Doubled.ensures.leaves)

pub returns-in-Doubled-clause-writes : goal.returns-in-Doubled-clause-writes
returns-in-Doubled-clause-writes g c = subst (λ (s : StopRack g.row.R.Denot). RoseByOne (stop_counts g.R.Rack s).writes (stop_counts g.R.Rack (Doubled c.write-in-Doubled.new.self)).writes) (sym c.in-Doubled.is) c.write-in-Doubled.ensures.writes

pub returns-in-Plain-clause-calls : goal.returns-in-Plain-clause-calls
returns-in-Plain-clause-calls g c =
    subst (λ (s : StopRack g.row.R.Denot). MostCalls g.R.Rack (calls_to_write s c.args.member c.args.place (length c.args.buf.now)) (behind s) c.write.new.self) (sym c.in-Plain.is) (omega (arith, c.write.ensures.leaves.counted.most))

pub returns-in-Doubled-clause-calls : goal.returns-in-Doubled-clause-calls
returns-in-Doubled-clause-calls g c =
    subst (λ (s : StopRack g.row.R.Denot). MostCalls g.R.Rack (calls_to_write s c.args.member c.args.place (length c.args.buf.now)) (behind s) c.write-in-Doubled.new.self.rack) (sym c.in-Doubled.is) c.write-in-Doubled.ensures.calls
