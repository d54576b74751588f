use Rattle.std.proofs.Common.{ℕ, List, refl, subst}
use Rattle.dg_stop.specs.DoubleOpenings.{AreCopied}
use Rattle.dg_stop.specs.Phases.{FinishedBelow}
use Rattle.dg_stop.specs.declared.places.Places.{Places}
use Rattle.dg_stop.proofs.attachments.attach_all.Goals as goal

pub returns-clause-attaches : goal.returns-clause-attaches
returns-clause-attaches g c =
    let t = c.args.attached in
    record {
      served = c.prepared_of-served.result;
      serves = c.finish_all.new.serving;
      prepared = c.prepared_of-served.ensures;
      finished = subst (λ (l : List Places). FinishedBelow g.R.Rack l t.lead.sequence t.lead.room t.extra.items 32 c.prepared_of-served.result c.finish_all.new.serving c.args.rack.now c.finish_all.new.rack) c.deref-2.ensures.value
          (subst (λ (l : List ℕ). FinishedBelow g.R.Rack c.deref-2.result.now t.lead.sequence t.lead.room l 32 c.prepared_of-served.result c.finish_all.new.serving c.args.rack.now c.finish_all.new.rack) c.deref-3.ensures.value c.finish_all.ensures);
      current = refl;
      last = subst (λ (l : List Places). AreCopied l c.in_ok-last.last.items) c.deref.ensures.value c.in_ok-last.ensures;
      stands = c.standing_of.ensures;
      fell = c.fallen_of.ensures.fell;
      fell_low = c.fallen_of.ensures.low;
      known_is = refl;
      room = refl;
      commit = refl;
      top_is = refl;
    }
