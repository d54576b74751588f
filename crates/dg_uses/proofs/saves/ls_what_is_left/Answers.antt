use Rattle.std.proofs.Common.{refl}
use Rattle.dg_model.specs.declared.events.Event.TheVariants.{Ls as LsEvent}
use Rattle.dg_run.specs.Calls.{facts_of, met_by}
use Rattle.dg_saved.specs.Ends.{EndsLs}
use Rattle.dg_saved.specs.Texts.{gives_listing, ls_text}
use Rattle.dg_uses.proofs.Headers.{saved_plain}
use Rattle.dg_uses.proofs.ResumedAgain.{asked_whole, has_answered, no_state_found, unclean_found}
use Rattle.dg_words.specs.declared.commands.Command.TheVariants.{Ls}
use Rattle.dg_uses.proofs.saves.ls_what_is_left.Goals as goal

pub returns-clause-opened : goal.returns-clause-opened
returns-clause-opened g c = λ path is_ls old number last held save again headers none.
    let s = c.run in
    let met = met_by (facts_of g.S.Source g.K.Sink g.R.Rack c.args.source.now s.new.source c.args.sink.now s.new.sink c.args.rack.now s.new.rack) in
    let tells = g.R.Rack.tells s.new.rack in
    let ends = saved_plain met again.tells headers tells (λ t f end. EndsLs t f path end) met.taken met.given s.result (s.ensures.ends (Ls path) is_ls) in (
      (λ is. c.saves_are_found_again.ensures.some old number last held save met (record { extra = refl; room = refl }) again none (no_state_found tells met (LsEvent path) ls_text gives_listing s.result ends is)),
      (λ is. c.saves_are_found_again.ensures.clean old number last held save met again none (unclean_found tells met (LsEvent path) ls_text gives_listing s.result ends is)),
    )

pub returns-clause-answered : goal.returns-clause-answered
returns-clause-answered g c = λ path is_ls old number last held save again headers none how.
    let s = c.run in
    let met = met_by (facts_of g.S.Source g.K.Sink g.R.Rack c.args.source.now s.new.source c.args.sink.now s.new.sink c.args.rack.now s.new.rack) in
    has_answered (g.R.Rack.tells s.new.rack) met (LsEvent path) ls_text gives_listing s.result
    (saved_plain met again.tells headers (g.R.Rack.tells s.new.rack) (λ t f end. EndsLs t f path end) met.taken met.given s.result (s.ensures.ends (Ls path) is_ls))
    (record { extra = refl; room = refl }) (c.saved_arrays_go_on.ensures.asked s.new.rack) (λ q. g.met.R.Rack.tells_told s.new.rack q (again.tells q)) old number last held save again none how

pub returns-clause-complete : goal.returns-clause-complete
returns-clause-complete g c = λ path is_ls old number last held save again headers none source sink.
    asked_whole c.run.result (returns-clause-opened g c path is_ls old number last held save again headers none) (c.run.ensures.complete (Ls path) is_ls source sink)
