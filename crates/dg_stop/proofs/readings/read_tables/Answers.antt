use Rattle.std.proofs.Common.{List, Bool, length, length-set, false, true, arith, ap, ◌∙◌, subst}
use Rattle.std.specs.Prelude.{IfErr, IfOk}
use Rattle.dg_stop.proofs.ReadLemmas.{known_less, reads_lost, reads_none, reads_then, sound_found}
use Rattle.dg_stop.specs.FoundHeaders.{no_headers}
use Rattle.dg_stop.specs.Leads.{IsLead}
use Rattle.dg_stop.specs.Readings.{LosesFound}
use Rattle.dg_stop.specs.Tables.{FindsOn}
use Rattle.dg_stop.specs.Tries.{count_in}
use Rattle.dg_stop.specs.declared.found_headers.Found.{Found}
use Rattle.dg_stop.proofs.readings.read_tables.Goals as goal

pub loop-lead-init : goal.loop-lead-init
loop-lead-init g c = record { on = reads_none g.R.Rack c.args.found.now c.args.known.now c.args.failed.now c.args.rack.now; many = omega (arith, c.told-found); all = omega (arith, c.told-known); marks = omega (arith, c.told-failed) }

pub read_by-requires-clause-sound : goal.read_by-requires-clause-sound
read_by-requires-clause-sound g c = sound_found g.R.Rack c.loop-lead.found c.loop-lead.known c.loop-lead.failed c.requires.0 c.loop-lead.rack (c.loop-lead.invariant.on.on c.requires.0 c.requires.1)

pub returns-in-Ok-clause-on : goal.returns-in-Ok-clause-on
returns-in-Ok-clause-on g c =
    let finds : FindsOn g.R.Rack c.loop-lead.rack c.read_by.new.rack = subst (λ r. IfOk r (λ t. FindsOn g.R.Rack c.loop-lead.rack c.read_by.new.rack)) c.in-Ok.is c.in_ok-attached.ensures.finds in
    reads_then g.R.Rack c.args.found.now c.args.known.now c.args.failed.now c.args.rack.now c.loop-lead.found c.loop-lead.known c.loop-lead.failed c.loop-lead.rack c.read_by.new.rack
    c.loop-lead.invariant.on finds.same (finds.on c.loop-lead.found c.loop-lead.known c.loop-lead.failed)

pub loop-lead-smaller : goal.loop-lead-smaller
loop-lead-smaller g c =
    let less = known_less g.R.Rack c.args.found.now c.args.known.now c.args.failed.now c.args.rack.now c.loop-lead.found c.loop-lead.known c.loop-lead.failed c.loop-lead.rack c.read_by.new.rack c.loop-lead.invariant.on c.loop-lead.invariant.many
    c.loop-lead.invariant.all c.loop-lead.invariant.marks c.in-Err.lost (subst (λ r. IfErr r (LosesFound g.R.Rack c.loop-lead.found c.loop-lead.rack c.read_by.new.rack)) c.in-Err.is c.in_ok-attached.ensures.lost) c.requires.0 (c.loop-lead.invariant.on.on c.requires.0 c.requires.1) in
    omega (arith, less, ap count_in c.forget.ensures.known)

pub loop-lead-preserved : goal.loop-lead-preserved
loop-lead-preserved g c =
    let step = reads_lost g.R.Rack c.args.found.now c.args.known.now c.args.failed.now c.args.rack.now c.loop-lead.found c.loop-lead.known c.loop-lead.failed c.loop-lead.rack c.read_by.new.rack c.loop-lead.invariant.on c.loop-lead.invariant.many
    c.loop-lead.invariant.all c.loop-lead.invariant.marks c.in-Err.lost (subst (λ r. IfErr r (LosesFound g.R.Rack c.loop-lead.found c.loop-lead.rack c.read_by.new.rack)) c.in-Err.is c.in_ok-attached.ensures.lost) in
    record {
      on = rw (c.forget.ensures.found, c.forget.ensures.known, c.forget.ensures.failed) step;
      many = ap (λ (l : List Found). length l) c.forget.ensures.found ∙ length-set c.loop-lead.found c.in-Err.lost no_headers ∙ c.loop-lead.invariant.many;
      all = ap (λ (l : List Bool). length l) c.forget.ensures.known ∙ length-set c.loop-lead.known c.in-Err.lost false ∙ c.loop-lead.invariant.all;
      marks = ap (λ (l : List Bool). length l) c.forget.ensures.failed ∙ length-set c.loop-lead.failed c.in-Err.lost true ∙ c.loop-lead.invariant.marks;
    }

pub returns-clause-on : goal.returns-clause-on
returns-clause-on g c = c.loop-lead.invariant.on

pub returns-clause-tables : goal.returns-clause-tables
returns-clause-tables g c = subst (IsLead c.loop-lead.found) c.in_default.is c.lead_of.ensures
