use Rattle.std.proofs.Common.{subst}
use Rattle.dg_run.specs.Calls.{facts_of, streams_of}
use Rattle.dg_run.specs.Ends.{EndsReplay, EndsTrace, asked_by}
use Rattle.dg_run.specs.declared.top.Status.{Status}
use Rattle.dg_uses.proofs.TracedLaws.{holds_traced}
use Rattle.dg_words.specs.declared.commands.Command.TheVariants.{Replay, Trace}
use Rattle.dg_uses.proofs.traced.trace_and_replay.Goals as goal

pub returns : goal.returns
returns g c = λ order b k m traces replays bytes left rest taken given same more tells none first second.
    let t = c.run-traced in
    let s = c.run-replayed in
    let met = facts_of g.I.Source g.T.Sink g.R.Rack c.args.image.now t.new.source c.args.text.now t.new.sink c.args.trace_rack.now t.new.rack in
    let on = facts_of g.S.Source g.K.Sink g.R.Rack c.args.source.now s.new.source c.args.sink.now s.new.sink c.args.rack.now s.new.rack in
    let traced = subst (λ (e : Status). EndsTrace (streams_of met) (asked_by order b k m) e) first (t.ensures.ends (Trace order b k m) traces) in
    let replayed = subst (λ (e : Status). EndsReplay (g.R.Rack.steady c.args.rack.now) (g.R.Rack.tells s.new.rack) on e) second (s.ensures.ends Replay replays) in
    holds_traced c.input_is_unique.ensures c.trace_is_an_input.ensures c.replay_holds_the_image.ensures (g.R.Rack.steady c.args.rack.now) (g.R.Rack.tells s.new.rack) met on (asked_by order b k m) bytes
    traced left rest taken given replayed same more (λ q. g.met.R.Rack.tells_told s.new.rack q (tells q)) none
