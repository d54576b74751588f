use Rattle.std.proofs.Common.{sym, ◌∙◌, ap}
use Rattle.std.specs.Prelude.{is_err}
use Rattle.std.proofs.lemmas.Bool.{false≢true}
use Rattle.dg_stop.proofs.FindLemmas.{looked, looks_as}
use Rattle.dg_stop.proofs.found_headers.attach.Goals as goal

pub returns-in_err-length-clause-looks : goal.returns-in_err-length-clause-looks
returns-in_err-length-clause-looks g c =
    looks_as g.R.Rack c.args.member c.attach.result c.from_residual.result (λ h. c.from_residual.ensures.0) (λ h. ap is_err c.in_err-length.was) c.args.rack.now c.attach.new.self
    (looked g.R.Rack c.args.member c.attach.result c.args.rack.now c.attach.new.self c.attach.ensures.leaves c.attach.ensures.made c.attach.ensures.same c.attach.ensures.writes)

pub returns-then-length-clause-looks : goal.returns-then-length-clause-looks
returns-then-length-clause-looks g c =
    looks_as g.R.Rack c.args.member c.attach.result _ (λ h. sym (ap is_err c.in_ok-length.was) ∙ h) (λ h. absurd (false≢true h)) c.args.rack.now c.attach.new.self
    (looked g.R.Rack c.args.member c.attach.result c.args.rack.now c.attach.new.self c.attach.ensures.leaves c.attach.ensures.made c.attach.ensures.same c.attach.ensures.writes)

pub returns-else-length-clause-looks : goal.returns-else-length-clause-looks
returns-else-length-clause-looks g c =
    looks_as g.R.Rack c.args.member c.attach.result _ (λ h. sym (ap is_err c.in_ok-length.was) ∙ h) (λ h. absurd (false≢true h)) c.args.rack.now c.attach.new.self
    (looked g.R.Rack c.args.member c.attach.result c.args.rack.now c.attach.new.self c.attach.ensures.leaves c.attach.ensures.made c.attach.ensures.same c.attach.ensures.writes)

pub returns-in-None-clause-looks : goal.returns-in-None-clause-looks
returns-in-None-clause-looks g c =
    looks_as g.R.Rack c.args.member c.attach.result _ (λ h. sym (ap is_err c.in_ok-length.was) ∙ h) (λ h. absurd (false≢true h)) c.args.rack.now c.attach.new.self
    (looked g.R.Rack c.args.member c.attach.result c.args.rack.now c.attach.new.self c.attach.ensures.leaves c.attach.ensures.made c.attach.ensures.same c.attach.ensures.writes)
