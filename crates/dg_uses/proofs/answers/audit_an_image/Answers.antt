use Rattle.dg_run.specs.Calls.{facts_of}
use Rattle.dg_uses.proofs.AuditedLaws.{audit_answered}
use Rattle.dg_words.specs.declared.commands.Command.TheVariants.{Audit}
use Rattle.dg_uses.proofs.answers.audit_an_image.Goals as goal

pub returns : goal.returns
returns g c = λ words image found is left some source sink.
    let met = facts_of g.S.Source g.K.Sink g.R.Rack c.args.source.now c.run.new.source c.args.sink.now c.run.new.sink c.args.rack.now c.run.new.rack in
    audit_answered met image found is left some c.run.result (c.run.ensures.ends Audit words) (c.run.ensures.complete Audit words source sink)
