use Rattle.std.proofs.Common.{subst}
use Rattle.dg_model.specs.declared.events.Event.TheVariants.{Array, Safe}
use Rattle.dg_run.specs.Calls.{facts_of}
use Rattle.dg_run.specs.Ends.{EndsReplay}
use Rattle.dg_run.specs.declared.top.Status.{Status}
use Rattle.dg_uses.proofs.OtherMembers.{array_makes, kept_to_budget, others_kept, safe_makes}
use Rattle.dg_words.specs.declared.commands.Command.TheVariants.{Replay}
use Rattle.dg_uses.proofs.others.replay_beside_others.Goals as goal

pub returns-clause-others : goal.returns-clause-others
returns-clause-others g c = λ shape events places left some done q past.
    let s = c.run in
    let met = facts_of g.S.Source g.K.Sink g.R.Rack c.args.source.now s.new.source c.args.sink.now s.new.sink c.args.rack.now s.new.rack in
    let tells = g.R.Rack.tells s.new.rack in
    let ended = subst (λ (e : Status). EndsReplay (g.R.Rack.steady c.args.rack.now) tells met e) done (s.ensures.ends Replay c.requires) in
    others_kept c.input_is_unique.ensures (g.R.Rack.steady c.args.rack.now) tells met (Array shape) shape.b events (array_makes shape events) places left some ended q past

pub returns-clause-safe : goal.returns-clause-safe
returns-clause-safe g c = λ shape events places left some done q past.
    let s = c.run in
    let met = facts_of g.S.Source g.K.Sink g.R.Rack c.args.source.now s.new.source c.args.sink.now s.new.sink c.args.rack.now s.new.rack in
    let tells = g.R.Rack.tells s.new.rack in
    let ended = subst (λ (e : Status). EndsReplay (g.R.Rack.steady c.args.rack.now) tells met e) done (s.ensures.ends Replay c.requires) in
    others_kept c.input_is_unique.ensures (g.R.Rack.steady c.args.rack.now) tells met (Safe shape) shape.b events (safe_makes shape events) places left some ended q past

pub returns-clause-budget : goal.returns-clause-budget
returns-clause-budget g c = λ text left some done.
    let s = c.run in
    let met = facts_of g.S.Source g.K.Sink g.R.Rack c.args.source.now s.new.source c.args.sink.now s.new.sink c.args.rack.now s.new.rack in
    let tells = g.R.Rack.tells s.new.rack in
    let ended = subst (λ (e : Status). EndsReplay (g.R.Rack.steady c.args.rack.now) tells met e) done (s.ensures.ends Replay c.requires) in
    kept_to_budget (g.R.Rack.steady c.args.rack.now) tells met text left some ended
