use Rattle.std.proofs.Common.{◌∙◌, sym, ap}
use Rattle.std.proofs.lemmas.Bool.{false≢true}
use Rattle.dg_model.specs.Members.{is_filling}
use Rattle.dg_store.specs.ReadLaws.{stays_none}
use Rattle.dg_rebuild.proofs.Answers.{map_ok}
use Rattle.dg_rebuild.proofs.Steps.{went_none}
use Rattle.dg_rebuild.proofs.rebuilds.rebuild.Goals as goal

pub returns-in_default-clause-err : goal.returns-in_default-clause-err
returns-in_default-clause-err g c = record {
  low = c.in-Some.have;
  high = c.in-Some.have;
  copies = 0;
  came = went_none g.R.Rack c.args.dead.now c.args.boundary c.args.store.now c.in-Some.have c.args.reaped.now.items c.in-Some.ensures.within c.requires.sound
      c.in-Some.ensures.filling;
}

pub returns-in-Ok-clause-broken : goal.returns-in-Ok-clause-broken
returns-in-Ok-clause-broken g c = map_ok c.refill.result _ _ (λ answer broken why whole. broken why) c.refill.ensures.broken

pub returns-in-Ok-clause-not_filling : goal.returns-in-Ok-clause-not_filling
returns-in-Ok-clause-not_filling g c =
    let filled = c.in-Some.ensures.filling in
    map_ok c.refill.result _ _
    (λ answer never. (λ is. absurd (never is), λ none. absurd (false≢true (sym (none.0 filled.member filled.refilled.0) ∙ ap is_filling filled.refilled.1))))
    c.refill.ensures.filling

pub returns-in_default-clause-stays : goal.returns-in_default-clause-stays
returns-in_default-clause-stays g c = stays_none g.R.Rack c.args.store.now

pub returns-in-None-clause-stays : goal.returns-in-None-clause-stays
returns-in-None-clause-stays g c = stays_none g.R.Rack c.args.store.now

pub returns-in-None-2-clause-stays : goal.returns-in-None-2-clause-stays
returns-in-None-2-clause-stays g c = stays_none g.R.Rack c.args.store.now
