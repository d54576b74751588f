use Rattle.std.proofs.Common.{refl}
use Rattle.dg_run.specs.Calls.{facts_of, met_by}
use Rattle.dg_run.specs.declared.top.Status.TheVariants.{Done, NoState, ReadFault, Unclean}
use Rattle.dg_uses.proofs.Headers.{resumed_plain}
use Rattle.dg_uses.proofs.ResumedAgain.{has_gone_on, has_gone_on_so_far, none_in_opening, resumed_whole}
use Rattle.dg_words.specs.declared.commands.Command.TheVariants.{Resume}
use Rattle.dg_uses.proofs.saves.resume_what_is_left.Goals as goal

pub returns-clause-opened : goal.returns-clause-opened
returns-clause-opened g c = λ old number last held save again headers none.
    let s = c.run in
    let met = facts_of g.S.Source g.K.Sink g.R.Rack c.args.source.now s.new.source c.args.sink.now s.new.sink c.args.rack.now s.new.rack in
    let tells = g.R.Rack.tells s.new.rack in
    let ends = s.ensures.ends Resume c.requires in (
      (λ is. c.saves_are_found_again.ensures.some old number last held save (met_by met) (record { extra = refl; room = refl }) again none
          (resumed_plain (g.R.Rack.steady c.args.rack.now) tells met again.tells headers s.result NoState (λ e. cc e) ends is).1),
      (λ is. c.saves_are_found_again.ensures.clean old number last held save (met_by met) again none (resumed_plain (g.R.Rack.steady c.args.rack.now) tells met again.tells headers s.result Unclean (λ e. cc e) ends is).1),
    )

pub returns-clause-done : goal.returns-clause-done
returns-clause-done g c = λ old number last held save again headers none is.
    let s = c.run in
    let met = facts_of g.S.Source g.K.Sink g.R.Rack c.args.source.now s.new.source c.args.sink.now s.new.sink c.args.rack.now s.new.rack in
    let tells = g.R.Rack.tells s.new.rack in
    let all = resumed_plain (g.R.Rack.steady c.args.rack.now) tells met again.tells headers s.result Done (λ e. cc e) (s.ensures.ends Resume c.requires) is in
    has_gone_on tells met old save all
    (c.saved_arrays_go_on.ensures.resumed s.new.rack old number last held save met all.events all.replies all.ran
    (λ q low. g.met.R.Rack.tells_told s.new.rack q (again.tells q)) again
    (none_in_opening met.before all.ran.opened met.now all.ran.rise none))

pub returns-clause-broke_off : goal.returns-clause-broke_off
returns-clause-broke_off g c = λ old number last held save again headers none is.
    let s = c.run in
    let met = facts_of g.S.Source g.K.Sink g.R.Rack c.args.source.now s.new.source c.args.sink.now s.new.sink c.args.rack.now s.new.rack in
    let tells = g.R.Rack.tells s.new.rack in
    let broke = resumed_plain (g.R.Rack.steady c.args.rack.now) tells met again.tells headers s.result ReadFault (λ e. cc e) (s.ensures.ends Resume c.requires) is in
    has_gone_on_so_far tells met old save broke
    (c.saved_arrays_go_on.ensures.resumed s.new.rack old number last held save met broke.events broke.replies broke.ran
    (λ q low. g.met.R.Rack.tells_told s.new.rack q (again.tells q)) again
    (none_in_opening met.before broke.ran.opened met.now broke.ran.rise none))

pub returns-clause-complete : goal.returns-clause-complete
returns-clause-complete g c = λ old number last held save again headers none events lines left some source sink.
    resumed_whole c.run.result (returns-clause-opened g c old number last held save again headers none)
    (c.run.ensures.complete Resume c.requires source sink events (λ opened source. lines source.saved.table.shape) (λ seen sees opened source. lines source.saved.table.shape) (left, some))
