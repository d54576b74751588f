use Rattle.std.proofs.Common.{[], ◌∷◌, sym, subst, arith}
use Rattle.std.specs.Prelude.{OnOk}
use Rattle.dg_io.specs.Kept.{KeepsRest}
use Rattle.dg_io.specs.RackCalls.RackCall.{blanks}
use Rattle.dg_io.specs.RackWords.{Leaves}
use Rattle.dg_io.specs.Told.{IsZeros, Told}
use Rattle.dg_model.specs.Causes.{RoseByOne}
use Rattle.dg_stop.specs.StopLaws.{doubled_leaves, doubled_made, plain_made, doubled_rest, plain_leaves, plain_rest}
use Rattle.dg_stop.specs.StopRacks.{StopMade, stop_bytes, stop_counts, stop_keeps, stop_stands, stop_words}
use Rattle.dg_stop.specs.declared.stop_racks.StopRack.{StopRack}
use Rattle.dg_stop.specs.declared.stop_racks.StopRack.TheVariants.{Plain, Doubled}
use Rattle.dg_stop.specs.Behind.{MostCalls}
use Rattle.dg_stop.specs.StopCalls.{behind}
use Rattle.dg_stop.proofs.stop_racks.StopRackRack.blank.Goals as goal

pub returns-in-Plain-clause-ok : goal.returns-in-Plain-clause-ok
returns-in-Plain-clause-ok g c = subst (λ (s : StopRack g.row.R.Denot). OnOk c.blank.result (Told (IsZeros c.args.length) (stop_bytes g.R.Rack s c.args.member) (stop_bytes g.R.Rack (Plain c.blank.new.self) c.args.member))) (sym c.in-Plain.is) c.blank.ensures.ok

pub returns-in-Plain-clause-leaves : goal.returns-in-Plain-clause-leaves
returns-in-Plain-clause-leaves g c = subst (λ (s : StopRack g.row.R.Denot). Leaves (stop_words g.R.Rack) c.args.member c.blank.result s (Plain c.blank.new.self)) (sym c.in-Plain.is) (plain_leaves g.R.Rack c.args.member c.blank.result c.in-Plain.rack c.blank.new.self c.blank.ensures.leaves)

pub returns-in-Plain-clause-stands : goal.returns-in-Plain-clause-stands
returns-in-Plain-clause-stands g c = c.blank.ensures.stands

pub returns-in-Plain-clause-keeps : goal.returns-in-Plain-clause-keeps
returns-in-Plain-clause-keeps g c = subst (λ (s : StopRack g.row.R.Denot). KeepsRest (stop_keeps g.R.Rack) (stop_stands g.R.Rack) c.args.member s (Plain c.blank.new.self)) (sym c.in-Plain.is) (plain_rest g.R.Rack c.args.member c.in-Plain.rack c.blank.new.self)

pub returns-in-Plain-clause-made : goal.returns-in-Plain-clause-made
returns-in-Plain-clause-made g c = subst (λ (s : StopRack g.row.R.Denot). StopMade g.R.Rack s (blanks c.args.member ∷ []) (Plain c.blank.new.self)) (sym c.in-Plain.is) (plain_made g.R.Rack c.in-Plain.rack c.blank.new.self (blanks c.args.member ∷ []) c.blank.ensures.made)

pub returns-in-Plain-clause-writes : goal.returns-in-Plain-clause-writes
returns-in-Plain-clause-writes g c = subst (λ (s : StopRack g.row.R.Denot). RoseByOne (stop_counts g.R.Rack s).writes (stop_counts g.R.Rack (Plain c.blank.new.self)).writes) (sym c.in-Plain.is) c.blank.ensures.writes

pub returns-in-Doubled-clause-ok : goal.returns-in-Doubled-clause-ok
returns-in-Doubled-clause-ok g c = subst (λ (s : StopRack g.row.R.Denot). OnOk c.blank-in-Doubled.result (Told (IsZeros c.args.length) (stop_bytes g.R.Rack s c.args.member) (stop_bytes g.R.Rack (Doubled c.blank-in-Doubled.new.self) c.args.member))) (sym c.in-Doubled.is) c.blank-in-Doubled.ensures.ok

pub returns-in-Doubled-clause-leaves : goal.returns-in-Doubled-clause-leaves
returns-in-Doubled-clause-leaves g c = subst (λ (s : StopRack g.row.R.Denot). Leaves (stop_words g.R.Rack) c.args.member c.blank-in-Doubled.result s (Doubled c.blank-in-Doubled.new.self)) (sym c.in-Doubled.is) (doubled_leaves g.R.Rack c.args.member c.blank-in-Doubled.result c.in-Doubled.double c.blank-in-Doubled.new.self c.blank-in-Doubled.ensures.leaves)

pub returns-in-Doubled-clause-stands : goal.returns-in-Doubled-clause-stands
returns-in-Doubled-clause-stands g c = c.blank-in-Doubled.ensures.stands

pub returns-in-Doubled-clause-keeps : goal.returns-in-Doubled-clause-keeps
returns-in-Doubled-clause-keeps g c = subst (λ (s : StopRack g.row.R.Denot). KeepsRest (stop_keeps g.R.Rack) (stop_stands g.R.Rack) c.args.member s (Doubled c.blank-in-Doubled.new.self)) (sym c.in-Doubled.is) (doubled_rest g.R.Rack c.args.member c.in-Doubled.double c.blank-in-Doubled.new.self c.blank-in-Doubled.ensures.keeps)

pub returns-in-Doubled-clause-made : goal.returns-in-Doubled-clause-made
returns-in-Doubled-clause-made g c = subst (λ (s : StopRack g.row.R.Denot). StopMade g.R.Rack s (blanks c.args.member ∷ []) (Doubled c.blank-in-Doubled.new.self)) (sym c.in-Doubled.is) (doubled_made g.R.Rack c.in-Doubled.double c.blank-in-Doubled.new.self (blanks c.args.member ∷ []) c.blank-in-Doubled.ensures.made)

pub returns-in-Doubled-clause-writes : goal.returns-in-Doubled-clause-writes
returns-in-Doubled-clause-writes g c = subst (λ (s : StopRack g.row.R.Denot). RoseByOne (stop_counts g.R.Rack s).writes (stop_counts g.R.Rack (Doubled c.blank-in-Doubled.new.self)).writes) (sym c.in-Doubled.is) c.blank-in-Doubled.ensures.writes

pub returns-in-Plain-clause-calls : goal.returns-in-Plain-clause-calls
returns-in-Plain-clause-calls g c =
    subst (λ (s : StopRack g.row.R.Denot). MostCalls g.R.Rack 1 (behind s) c.blank.new.self) (sym c.in-Plain.is) (omega (arith, c.blank.ensures.leaves.counted.most))

pub returns-in-Doubled-clause-calls : goal.returns-in-Doubled-clause-calls
returns-in-Doubled-clause-calls g c =
    subst (λ (s : StopRack g.row.R.Denot). MostCalls g.R.Rack 1 (behind s) c.blank-in-Doubled.new.self.rack) (sym c.in-Doubled.is) c.blank-in-Doubled.ensures.calls
